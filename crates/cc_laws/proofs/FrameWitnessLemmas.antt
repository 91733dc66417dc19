-- Replies of one byte meet the premises of the laws of outputs, and other replies and outputs break them.
use Rattle.std.proofs.Common.{ℕ, zero, suc, Bool, false, ◌≡◌, List, [], ◌∷◌, ◌++◌, length, Option, Some, refl, sym, ap, ◌∙◌, arith}
use Rattle.std.specs.Prelude.{take}
use Rattle.cc_io.specs.Frames.{lines}
use Rattle.cc_io.specs.Answers.{Answer, AnswersAll, EndsWith, Output, answers_text, entries_of}
use Rattle.cc_io.specs.Correct.{StopsInAnswer, StopsOnPage}
use Rattle.cc_io.specs.Laws.{BeginsOutput, InParts, IsOne, IsSome}
use Rattle.cc_laws.specs.Witnesses.{IsCounted}
use Rattle.cc_laws.specs.Counterexamples.{IsAnything, IsSilent}

-- ---- what meets the premises

abbrev answer : Answer
answer = record { text = 33 ∷ []; is_error = false }

pub output : Output IsCounted IsCounted lines 0 ((97 ∷ 10 ∷ []) ++ 98 ∷ 10 ∷ []) (33 ∷ 33 ∷ []) false 2
output = record {
  answers = answer ∷ answer ∷ [];
  mid = 2;
  takes = (1, (refl, refl, refl), (2, (refl, refl, refl), refl));
  ending = record { text = []; is_error = false };
  ends = (refl, refl, refl);
  output_is = refl;
  error_is = refl;
}

pub some : IsSome IsCounted
some old entry text error new counted =
    let count : length text ≡ 1 = ap (λ (l : List ℕ). length l) counted.0 in
    omega (arith, count)

pub one : IsOne IsCounted
one = record {
  text = λ old entry text text_2 error error_2 new new_2 is is_2. is.0 ∙ sym is_2.0;
  error = λ old entry text text_2 error error_2 new new_2 is is_2. is.1 ∙ sym is_2.1;
  new = λ old entry text text_2 error error_2 new new_2 is is_2. is.2 ∙ sym is_2.2;
}

pub stops : StopsOnPage IsCounted 1 1 0 [] (entries_of lines (97 ∷ 10 ∷ 98 ∷ 10 ∷ [])) (Some []) (Some (33 ∷ [])) 2
stops = record {
  earlier = (97 ∷ []) ∷ [];
  on_page = (98 ∷ []) ∷ [];
  later = [];
  entries_are = refl;
  before = answer ∷ [];
  mid = 1;
  first = (1, (refl, refl, refl), refl);
  page = answer ∷ [];
  takes = (2, (refl, refl, refl), refl);
  fits = record { first = []; last = answer; answers_are = refl; fits = omega arith };
  all_fit = omega arith;
  count = 0;
  within = omega arith;
  written = refl;
}

-- ---- what breaks the claims

pub none-breaks : ¬ IsSome IsSilent
none-breaks is = let some = is 0 [] [] false 0 refl in absurd (omega (arith, some))

pub two-breaks : ¬ IsOne IsAnything
two-breaks is =
    let same : [] ≡ 0 ∷ [] = is.text 0 [] [] (0 ∷ []) false false 0 0 _ _ in
    let count : 0 ≡ 1 = ap (λ (l : List ℕ). length l) same in
    absurd (omega (arith, count))

-- of no input there is no output
none-said : (old new : ℕ) (bytes : List ℕ) (error : Bool) → Output IsCounted IsCounted lines old [] bytes error new → bytes ≡ []
none-said old new bytes error said = said.output_is ∙ by_answers said.answers said.mid said.takes said.ending said.ends
  where
    by_answers : (answers : List Answer) (mid : ℕ) → AnswersAll IsCounted old [] answers mid
        → (ending : Answer) → EndsWith IsCounted mid [] ending new → answers_text answers ++ ending.text ≡ []
    by_answers [] mid takes ending ends = ends.0
    by_answers (first ∷ answers) mid takes ending ends = absurd takes

pub parts-break : ¬ InParts IsCounted IsCounted lines 0 [] [] (33 ∷ []) false 0
parts-break parts =
    let first = none-said 0 parts.mid parts.output_1 parts.error_1 parts.of_first in
    let second = none-said parts.mid 0 parts.output_2 parts.error_2 parts.of_second in
    let same : 33 ∷ [] ≡ [] = parts.output_is ∙ (λ i. first i ++ second i) in
    let count : 1 ≡ 0 = ap (λ (l : List ℕ). length l) same in
    absurd (omega (arith, count))

-- no bytes have no prefix but themselves
pub none-taken : (count : ℕ) → take {A = ℕ} count [] ≡ []
none-taken zero = refl
none-taken (suc count) = refl

pub begins-break : ¬ BeginsOutput IsCounted IsCounted lines 0 [] [] (Some []) (Some (33 ∷ []))
begins-break begins =
    let prefix = begins [] false 0 nothing in
    let same : 33 ∷ [] ≡ [] = prefix.1 ∙ none-taken prefix.0 in
    let count : 1 ≡ 0 = ap (λ (l : List ℕ). length l) same in
    absurd (omega (arith, count))
  where
    nothing : Output IsCounted IsCounted lines 0 [] [] false 0
    nothing = record {
      answers = [];
      mid = 0;
      takes = refl;
      ending = record { text = []; is_error = false };
      ends = (refl, refl, refl);
      output_is = refl;
      error_is = refl;
    }

pub stops-break : (taken taken_now : Option (List ℕ)) (new : ℕ) → ¬ StopsInAnswer IsCounted 0 [] [] taken taken_now new
stops-break taken taken_now new is = by_parts is.earlier is.entries_are
  where
    by_parts : (earlier : List (List ℕ)) → [] ≡ earlier ++ is.entry ∷ is.later → ⊥
    by_parts [] same =
        let count : 0 ≡ length (is.entry ∷ is.later) = ap (λ (l : List (List ℕ)). length l) same in omega (arith, count)
    by_parts (first ∷ earlier) same =
        let count : 0 ≡ length (first ∷ earlier ++ is.entry ∷ is.later) = ap (λ (l : List (List ℕ)). length l) same in
        omega (arith, count)
