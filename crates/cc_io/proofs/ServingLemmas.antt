-- The bytes written for a text, by a claim on the replies, from the contract of the pump.
use Rattle.std.proofs.Common.{◌≡◌, ℕ, Bool, true, false, List, [], ◌∷◌, ◌++◌, length, take, refl, sym, ◌∙◌, ap, subst, append_assoc, not, ◌==◌, ◌||◌, Option, Result, Ok, Err, inl, inr}
use Rattle.std.proofs.Math.Dec.{eqb-suc-zero}
use Rattle.std.specs.List.{list_any}
use Rattle.std.specs.Io.KnownBytes.{Appends}
use Rattle.cc_io.specs.Text.{refusal_text, with_line_feed}
use Rattle.cc_word.specs.declared.refusal.Refusal.TheVariants.{Unfinished}
use Rattle.cc_io.specs.Devices.{InputState, IsOutcome, OutputState}
use Rattle.cc_io.specs.Frames.{Frame}
use Rattle.cc_io.specs.Answers.{Answer, AnswersAll, EndsWith, Relation, answers_text, seen}
use Rattle.cc_io.specs.Correct.{Pumps, PumpsText, WritesOutput, StopsOnPage, StopsAfterAnswers}
use Rattle.cc_io.specs.Serving.{Claim, EndingClaim, RefusesRest, WritesWhole, StopsInPage, StopsAfter, ServesText, Serves}
use Rattle.cc_io.specs.declared.summary.IoError.{IoError}
use Rattle.cc_io.specs.declared.summary.IoError.TheVariants.{Read, Write}
use Rattle.cc_io.specs.declared.summary.Summary.{Summary}
use Rattle.cc_io.proofs.EngineLemmas.{all_further}

-- The replies of an answerer from `old` on, which ends as `new`, satisfy the claims, and one to
-- trailing bytes is an error.
pub record Makes {S : Type 0} (Answered Ended : Relation S) (Are : Claim) (Ends : EndingClaim) (old new : S) : Type 0 where
  pub are : (entries : List (List ℕ)) (answers : List Answer) (mid : S) (rest : List ℕ) (ending : Answer)
      → AnswersAll Answered old (seen entries) answers mid → EndsWith Ended mid rest ending new → Are entries answers
  pub ends : (entries : List (List ℕ)) (answers : List Answer) (mid : S) (rest : List ℕ) (ending : Answer)
      → AnswersAll Answered old (seen entries) answers mid → EndsWith Ended mid (take 129 rest) ending new
      → Ends entries rest ending.text × (ending.is_error ≡ not (length rest == 0))

-- an answerer that refuses trailing bytes as unfinished
pub refuses_rest : {S : Type 0} (Ended : Relation S)
    → ((mid next : S) (rest text : List ℕ) (is_error : Bool) → Ended mid rest text is_error next
    → (text ≡ with_line_feed (refusal_text Unfinished)) × (is_error ≡ true))
    → (entries : List (List ℕ)) (mid next : S) (rest : List ℕ) (ending : Answer) → EndsWith Ended mid (take 129 rest) ending next
    → RefusesRest entries rest ending.text × (ending.is_error ≡ not (length rest == 0))
refuses_rest {S} Ended refuses entries mid next [] ending e = (e.0, e.1)
refuses_rest {S} Ended refuses entries mid next (byte ∷ rest) ending e =
    let r = refuses mid next (byte ∷ take 128 rest) ending.text ending.is_error e in
    (r.0, r.1 ∙ sym (ap not (eqb-suc-zero (length rest))))

-- ---- entries and what an answerer sees of them

-- the entries whose first bytes are in two parts
pub record Parts (entries first_seen second_seen : List (List ℕ)) : Type 0 where
  pub first : List (List ℕ)
  pub second : List (List ℕ)
  pub whole : entries ≡ first ++ second
  pub first_is : seen first ≡ first_seen
  pub second_is : seen second ≡ second_seen

pub seen_parts : (entries xs ys : List (List ℕ)) → seen entries ≡ xs ++ ys → Parts entries xs ys
seen_parts entries [] ys h = record { first = []; second = entries; whole = refl; first_is = refl; second_is = h }
seen_parts [] (x ∷ xs) ys h = cc h
seen_parts (entry ∷ entries) (x ∷ xs) ys h =
    let p = seen_parts entries xs ys (cc h) in
    record {
      first = entry ∷ p.first;
      second = p.second;
      whole = ap (λ (l : List (List ℕ)). entry ∷ l) p.whole;
      first_is = let head : take 129 entry ≡ x = cc h in rw (head, p.first_is) refl;
      second_is = p.second_is;
    }

-- ---- the cases of the pump

-- an answerer that is not done was not stopped
pub runs_through : {S : Type 0} (done : S → Bool) (Answered Ended : Relation S) (frame : Frame) (room most : ℕ) (old new : S) (pending : List ℕ) (c j t u : Option (List ℕ))
    (result : Result Summary IoError)
    → done new ≡ false → (p : Pumps done Answered Ended frame room most old pending c j t u result new)
    → PumpsText Answered Ended frame room most old pending p.text j t u result new
runs_through {S} done Answered Ended frame room most old new pending c j t u result going p = elim p.pumps [
  | inl whole ↦ whole
  | inr early ↦ absurd (cc (early.0, going))
]

module _ {S : Type 0} (Answered Ended : Relation S) (Are : Claim) (Ends : EndingClaim) (old new : S) (makes : Makes Answered Ended Are Ends old new) where
  -- the state that answered all entries is the last
  none_left : EndsWith Ended new [] (record { text = []; is_error = false }) new
  none_left = (refl, refl, refl)

  are_all : (entries : List (List ℕ)) (answers : List Answer) → AnswersAll Answered old (seen entries) answers new → Are entries answers
  are_all entries answers t = makes.are entries answers new [] (record { text = []; is_error = false }) t none_left

  writes_whole : (frame : Frame) (pending text : List ℕ) (t u : Option (List ℕ)) (error : Bool)
      → WritesOutput Answered Ended frame old pending text t u error new → WritesWhole Are Ends frame pending text t u error
  writes_whole frame pending text t u error w =
      let o = w.of_text in
      let rest : List ℕ = frame.left [] text in
      let ends = makes.ends (frame.entries [] text) o.answers o.mid rest o.ending o.takes o.ends in
      record {
        answers = o.answers;
        are_answers = makes.are (frame.entries [] text) o.answers o.mid (take 129 rest) o.ending o.takes o.ends;
        ending = o.ending.text;
        is_ending = ends.0;
        written = subst (λ (l : List ℕ). Appends t u l)
            (ap (λ (l : List ℕ). pending ++ l) o.output_is ∙ sym (append_assoc pending (answers_text o.answers) o.ending.text))
            w.written;
        error_is = o.error_is ∙ ap (λ (b : Bool). list_any (λ (answer : Answer). answer.is_error) o.answers || b) ends.1;
      }

  stops_in_page : (room most : ℕ) (pending : List ℕ) (entries : List (List ℕ)) (t u : Option (List ℕ))
      → StopsOnPage Answered room most old pending (seen entries) t u new → StopsInPage Are room most pending entries t u
  stops_in_page room most pending entries t u s =
      let p = seen_parts entries (s.earlier ++ s.on_page) s.later s.entries_are in
      record {
        answered = p.first;
        later = p.second;
        entries_are = p.whole;
        before = s.before;
        page = s.page;
        are_answers = are_all p.first (s.before ++ s.page)
            (subst (λ (l : List (List ℕ)). AnswersAll Answered old l (s.before ++ s.page) new) (sym p.first_is)
            (all_further Answered old s.mid new s.earlier s.on_page s.before s.page s.first s.takes));
        fits = s.fits;
        all_fit = s.all_fit;
        count = s.count;
        within = s.within;
        written = s.written;
      }

  stops_after : (frame : Frame) (pending text : List ℕ) (t u : Option (List ℕ))
      → StopsAfterAnswers Answered Ended frame old pending text t u new → StopsAfter Are Ends frame pending text t u
  stops_after frame pending text t u s =
      let rest : List ℕ = frame.left [] text in
      record {
        answers = s.answers;
        are_answers = makes.are (frame.entries [] text) s.answers s.mid (take 129 rest) s.ending s.takes s.ends;
        ending = s.ending.text;
        is_ending = (makes.ends (frame.entries [] text) s.answers s.mid rest s.ending s.takes s.ends).0;
        count = s.count;
        within = s.within;
        written = s.written;
      }

  pub serves_text : (frame : Frame) (room most : ℕ) (pending text : List ℕ) (j t u : Option (List ℕ)) (result : Result Summary IoError)
      → PumpsText Answered Ended frame room most old pending text j t u result new → ServesText Are Ends frame room most pending text j t u result
  serves_text frame room most pending text j t u (Ok summary) p = (p.0, writes_whole frame pending text t u summary.any_error p.1)
  serves_text frame room most pending text j t u (Err Read) p =
      record { answers = p.answers; are_answers = are_all (frame.entries [] text) p.answers p.takes; written = p.written }
  serves_text frame room most pending text j t u (Err Write) p = elim p [
    | inl s ↦ inl (s.0, record { some = s.1.some; are_answers = are_all [] [] s.1.stays; written = s.1.written })
    | inr s ↦ elim s [
      | inl page ↦ inr (inl (stops_in_page room most pending (frame.entries [] text) t u page))
      | inr after ↦ inr (inr (after.0, stops_after frame pending text t u after.1))
    ]
  ]

  -- what the pump promises of an answerer that is never done is what its claim promises
  unfoldable pub serves_pumped : (frame : Frame) (room most : ℕ) (pending header : List ℕ) (c j : InputState) (t u : OutputState) (result : Result Summary IoError)
      → pending ≡ header → IsOutcome j u result → Pumps (λ (state : S). false) Answered Ended frame room most old pending c.unread j.unread t.taken u.taken result new
      → Serves Are Ends frame room most header c j t u result
  serves_pumped frame room most pending header c j t u result is outcome p = record {
    text = p.text;
    given = p.given;
    serves = subst (λ (l : List ℕ). ServesText Are Ends frame room most l p.text j.unread t.taken u.taken result) is
        (serves_text frame room most pending p.text j.unread t.taken u.taken result
        (runs_through (λ (state : S). false) Answered Ended frame room most old new pending c.unread j.unread t.taken u.taken result refl p));
    outcome = outcome;
  }
