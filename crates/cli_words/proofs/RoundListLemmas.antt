-- The bytes written for a list of lengths, from the contract of the pump.
use Rattle.std.proofs.Common.{◌≡◌, ℕ, ◌<◌, Bool, true, false, List, [], ◌∷◌, length, take, refl, sym, ◌∙◌, ap, subst, arith, ◌||◌, length-take, inl, inr, Option, Result}
use Rattle.std.specs.List.{list_any}
use Rattle.std.proofs.lemmas.Bool.{cases_lt, and_left, lt-leb}
use Rattle.std.proofs.lemmas.List.{take_all}
use Rattle.cc_io.specs.Answers.{Answer, AnswersAll, EndsWith, seen}
use Rattle.cc_io.specs.Correct.{Pumps}
use Rattle.cc_io.specs.Devices.{InputState, IsOutcome, OutputState}
use Rattle.cc_io.specs.Frames.{lines}
use Rattle.cc_io.specs.Serving.{RefusesRest}
use Rattle.cc_io.specs.declared.summary.IoError.{IoError}
use Rattle.cc_io.specs.declared.summary.Summary.{Summary}
use Rattle.cc_io.proofs.ServingLemmas.{Makes, refuses_rest, serves_pumped}
use Rattle.cli_words.specs.BareDigits.{is_bare_line}
use Rattle.cli_words.specs.RoundList.{IsLengthAnswer, AreLengthAnswers, AreRoundings, RoundsList}
use Rattle.cli_words.specs.Rounder.{AnswersLength, RefusesLastBytes}
use Rattle.cli_words.specs.declared.length_list.Rounder.{Rounder}

-- ---- lines and what a rounder sees of them

-- the first 129 bytes of a line have the reply of the whole line
start_enough : (base : Option ℕ) (line : List ℕ) (answer : Answer) → IsLengthAnswer base (take 129 line) answer → IsLengthAnswer base line answer
start_enough base line answer is = elim (cases_lt (length line) 129) [
  | inl short ↦ subst (λ (l : List ℕ). IsLengthAnswer base l answer) (take_all 129 line (omega arith)) is
  | inr long ↦
      let cut : length (take 129 line) ≡ 129 = omega (arith, length-take 129 line) in
      record {
        short = λ small. absurd (omega (arith, small, long));
        long = λ large. is.long (omega (arith, cut));
        error_is = (λ error. inr (omega (arith, long)), λ error. is.error_is.1 (inr (omega (arith, cut))));
      }
]

answers_are : (old new : Rounder) (each : List (List ℕ)) (answers : List Answer) → AnswersAll AnswersLength old (seen each) answers new
    → AreLengthAnswers old.base each answers
answers_are old new [] [] t = tt
answers_are old new (line ∷ each) (answer ∷ answers) t = (
  start_enough old.base line answer t.1.0,
  subst (λ (b : Option ℕ). AreLengthAnswers b each answers) t.1.1 (answers_are t.0 new each answers t.2),
)
answers_are old new [] (answer ∷ answers) t = absurd t
answers_are old new (line ∷ each) [] t = absurd t

-- a long line has no such digits
not_bare : (line : List ℕ) → 128 < length line → is_bare_line line ≡ false
not_bare line long = and_left _ _ (lt-leb (length line) 128 long)

-- the first 129 bytes of a line have such digits if the whole line has
start_bare : (line : List ℕ) → is_bare_line (take 129 line) ≡ is_bare_line line
start_bare line = elim (cases_lt (length line) 129) [
  | inl short ↦ ap is_bare_line (take_all 129 line (omega arith))
  | inr long ↦ not_bare (take 129 line) (omega (arith, length-take 129 line)) ∙ sym (not_bare line (omega (arith, long)))
]

or_false : (b : Bool) → b ≡ (b || false)
or_false true = refl
or_false false = refl

or_or : (a b c : Bool) → ((a || b) || c) ≡ (a || (b || c))
or_or true b c = refl
or_or false b c = refl

-- what the rounder says of the lines
bare_seen : (old new : Rounder) (each : List (List ℕ)) (answers : List Answer) → AnswersAll AnswersLength old (seen each) answers new
    → new.bare ≡ (old.bare || list_any is_bare_line each)
bare_seen old new [] [] t = ap (λ (r : Rounder). r.bare) t ∙ or_false old.bare
bare_seen old new (line ∷ each) (answer ∷ answers) t =
    bare_seen t.0 new each answers t.2
    ∙ ap (λ (b : Bool). b || list_any is_bare_line each) (t.1.2 ∙ ap (λ (b : Bool). old.bare || b) (start_bare line))
    ∙ or_or old.bare (is_bare_line line) (list_any is_bare_line each)
bare_seen old new [] (answer ∷ answers) t = absurd t
bare_seen old new (line ∷ each) [] t = absurd t

bare_stays : (old new : Rounder) (rest : List ℕ) (ending : Answer) → EndsWith RefusesLastBytes old rest ending new → new.bare ≡ old.bare
bare_stays old new [] ending e = ap (λ (r : Rounder). r.bare) e.2
bare_stays old new (byte ∷ rest) ending e = e.2

-- the replies of a rounder have its base
makes : (old new : Rounder) → old.bare ≡ false → Makes AnswersLength RefusesLastBytes (AreRoundings old.base new.bare) RefusesRest old new
makes old new unseen = record {
  are = λ each answers mid rest ending takes ends. (
    answers_are old mid each answers takes,
    bare_stays mid new rest ending ends ∙ bare_seen old mid each answers takes ∙ ap (λ (b : Bool). b || list_any is_bare_line each) unseen,
  );
  ends = λ each answers mid rest ending takes ends.
      refuses_rest RefusesLastBytes (λ mid next rest text is_error refuses. (refuses.0, refuses.1)) each mid new rest ending ends;
}

-- what the pump promises of a rounder is what `round_list` promises
pub rounds_pumped : (old new : Rounder) (pending : List ℕ) (c j : InputState) (t u : OutputState) (result : Result Summary IoError) → old.bare ≡ false → pending ≡ [] → IsOutcome j u result
    → Pumps (λ (state : Rounder). false) AnswersLength RefusesLastBytes lines 32768 264 old pending c.unread j.unread t.taken u.taken result new → RoundsList old.base new.bare c j t u result
rounds_pumped old new pending c j t u result unseen none outcome p =
    serves_pumped AnswersLength RefusesLastBytes (AreRoundings old.base new.bare) RefusesRest old new (makes old new unseen) lines 32768 264 pending [] c j t u result none outcome p
