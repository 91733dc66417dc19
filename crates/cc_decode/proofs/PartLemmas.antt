-- The promises of the pump for a type that stops after some entries, as promises for the first entries.
use Rattle.std.proofs.Common.{◌≡◌, ◌∙◌, ℕ, zero, suc, ◌+◌, ◌-◌, ◌<◌, ◌≤◌, ◌==◌, ◌||◌, Bool, true, false, List, [], ◌∷◌}
use Rattle.std.proofs.Common.{◌++◌, length, take, refl, sym, ap, subst, arith, append-nil, inl, inr, Option, None, Some, Result, Ok, Err, if◌then◌else◌}
use Rattle.std.proofs.lemmas.Bool.{eqb-true, eqb-false, false≢true}
use Rattle.std.proofs.lemmas.List.{length-append, length-map, take_all}
use Rattle.std.proofs.Math.Seq.{take-append-add}
use Rattle.std.specs.List.{list_any, take-map}
use Rattle.std.specs.Io.KnownBytes.{Appends, IsAtEnd}
use Rattle.cc_io.specs.Answers.{Answer, AnswersAll, EndsWith, Output, Relation, answers_text, seen}
use Rattle.cc_io.specs.Correct.{PumpsText, StopsAfterAnswers, StopsOnPage, StopsText}
use Rattle.cc_io.specs.Frames.{Frame}
use Rattle.cc_io.specs.declared.summary.IoError.{IoError}
use Rattle.cc_io.specs.declared.summary.IoError.TheVariants.{Read, Write}
use Rattle.cc_io.specs.declared.summary.Summary.{Summary}
use Rattle.cc_io.proofs.EngineLemmas.{all_further}
use Rattle.cc_decode.specs.Part.{frame_part, is_part_over, left_after, unread_after}

-- a type that counts the entries that it still takes, and stops after them
pub record Counts {S : Type 0} (left : S → Option ℕ) (Answered Ended : Relation S) : Type 0 where
  pub fewer : (old : S) (entry text : List ℕ) (is_error : Bool) (new : S) → Answered old entry text is_error new → left new ≡ left_after (left old) 1
  pub going : (old : S) (entry text : List ℕ) (is_error : Bool) (new : S) → Answered old entry text is_error new → is_part_over (left old) ≡ false
  pub ended : (old : S) (rest text : List ℕ) (is_error : Bool) (new : S) → Ended old rest text is_error new → is_part_over (left old) ≡ false

or_false : (b : Bool) → b ≡ (b || false)
or_false true = refl
or_false false = refl

-- the first entries, as far as they are seen
first_seen : (n : ℕ) (entries : List (List ℕ)) → seen (take n entries) ≡ take n (seen entries)
first_seen n entries = sym (take-map (take 129) n entries)

first_whole : (n : ℕ) (xs ys : List (List ℕ)) → length xs ≤ n → take n (xs ++ ys) ≡ xs ++ take (n - length xs) ys
first_whole n xs ys fits =
    let parts : n ≡ length xs + (n - length xs) = omega (arith, fits) in
    ap (λ (k : ℕ). take k (xs ++ ys)) parts ∙ take-append-add xs ys (n - length xs)

module _ {S : Type 0} (left : S → Option ℕ) (Answered Ended : Relation S) (counts : Counts left Answered Ended) where
  -- the entries that have replies
  record Counted (limit count : ℕ) (new : S) : Type 0 where
    within : count ≤ limit
    rest : left new ≡ Some (limit - count)

  counted : (old new : S) (entries : List (List ℕ)) (answers : List Answer) (limit : ℕ) → left old ≡ Some limit → AnswersAll Answered old entries answers new
      → Counted limit (length entries) new
  counted old new [] [] limit is t = record { within = omega arith; rest = let same : limit ≡ limit - 0 = omega arith in ap left t ∙ is ∙ ap Some same }
  counted old new (entry ∷ entries) (answer ∷ answers) limit is t =
      let going : (limit == 0) ≡ false =
      subst (λ (o : Option ℕ). is_part_over o ≡ false) is (counts.going old entry answer.text answer.is_error t.0 t.1) in
      let some : limit ≡ 0 → ⊥ = eqb-false limit 0 going in
      let positive : 0 < limit = above limit some in
      let after = counted t.0 new entries answers (limit - 1) (counts.fewer old entry answer.text answer.is_error t.0 t.1 ∙ ap (λ (o : Option ℕ). left_after o 1) is) t.2 in
      let same : limit - 1 - length entries ≡ limit - suc (length entries) = omega arith in
      record { within = omega (arith, after.within, positive); rest = after.rest ∙ ap Some same }
    where
      above : (n : ℕ) → (n ≡ 0 → ⊥) → 0 < n
      above zero some = absurd (some refl)
      above (suc n) some = omega arith
  counted old new [] (answer ∷ answers) limit is t = absurd t
  counted old new (entry ∷ entries) [] limit is t = absurd t

  -- without a limit it is never done
  pub stays : (old new : S) (entries : List (List ℕ)) (answers : List Answer) → left old ≡ None → AnswersAll Answered old entries answers new → left new ≡ None
  stays old new [] [] is t = ap left t ∙ is
  stays old new (entry ∷ entries) (answer ∷ answers) is t =
      stays t.0 new entries answers (counts.fewer old entry answer.text answer.is_error t.0 t.1 ∙ ap (λ (o : Option ℕ). left_after o 1) is) t.2
  stays old new [] (answer ∷ answers) is t = absurd t
  stays old new (entry ∷ entries) [] is t = absurd t

  -- trailing bytes have a reply only if a further entry would have one
  ends_first : (mid new : S) (over : Bool) (rest : List ℕ) (ending : Answer) → is_part_over (left mid) ≡ over → EndsWith Ended mid (take 129 rest) ending new
      → EndsWith Ended mid (take 129 (if over then [] else rest)) ending new
  ends_first mid new true [] ending is e = e
  ends_first mid new true (byte ∷ rest) ending is e = absurd (false≢true (sym (counts.ended mid (byte ∷ take 128 rest) ending.text ending.is_error new e) ∙ is))
  ends_first mid new false rest ending is e = e

  at_end : (over : Bool) (unread : Option (List ℕ)) → IsAtEnd unread → IsAtEnd (if over then None else unread)
  at_end true unread e = tt
  at_end false unread e = e

  module _ (frame : Frame) (text : List ℕ) (limit : ℕ) where
    abbrev all : List (List ℕ)
    all = frame.entries [] text

    abbrev over : Bool
    over = is_part_over (Some (limit - length all))

    seen_length : length (seen all) ≡ length all
    seen_length = length-map all (take 129)

    -- all entries are among the first
    all_first : length (seen all) ≤ limit → take limit all ≡ all
    all_first fits = let short : length all ≤ limit = omega (arith, fits, seen_length) in take_all limit all short

    over_after : (mid : S) → Counted limit (length (seen all)) mid → is_part_over (left mid) ≡ over
    over_after mid c = ap is_part_over (c.rest ∙ ap (λ (n : ℕ). Some (limit - n)) seen_length)

    output_first : (old new : S) (output : List ℕ) (error : Bool) → left old ≡ Some limit → Output Answered Ended frame old text output error new
        → Output Answered Ended (frame_part (Some limit) frame) old text output error new
    output_first old new output error is o =
        let c = counted old o.mid (seen all) o.answers limit is o.takes in
        record {
          answers = o.answers;
          mid = o.mid;
          takes = subst (λ (l : List (List ℕ)). AnswersAll Answered old (seen l) o.answers o.mid) (sym (all_first c.within)) o.takes;
          ending = o.ending;
          ends = ends_first o.mid new over (frame.left [] text) o.ending (over_after o.mid c) o.ends;
          output_is = o.output_is;
          error_is = o.error_is;
        }

    after_first : (old new : S) (pending : List ℕ) (t u : Option (List ℕ)) → left old ≡ Some limit
        → StopsAfterAnswers Answered Ended frame old pending text t u new → StopsAfterAnswers Answered Ended (frame_part (Some limit) frame) old pending text t u new
    after_first old new pending t u is s =
        let c = counted old s.mid (seen all) s.answers limit is s.takes in
        record {
          answers = s.answers;
          mid = s.mid;
          takes = subst (λ (l : List (List ℕ)). AnswersAll Answered old (seen l) s.answers s.mid) (sym (all_first c.within)) s.takes;
          ending = s.ending;
          ends = ends_first s.mid new over (frame.left [] text) s.ending (over_after s.mid c) s.ends;
          count = s.count;
          within = s.within;
          written = s.written;
        }

    page_first : (room most : ℕ) (old new : S) (pending : List ℕ) (t u : Option (List ℕ)) → left old ≡ Some limit
        → StopsOnPage Answered room most old pending (seen all) t u new → StopsOnPage Answered room most old pending (seen (take limit all)) t u new
    page_first room most old new pending t u is s =
        let xs = s.earlier ++ s.on_page in
        let c = counted old new xs (s.before ++ s.page) limit is (all_further Answered old s.mid new s.earlier s.on_page s.before s.page s.first s.takes) in
        record {
          earlier = s.earlier;
          on_page = s.on_page;
          later = take (limit - length xs) s.later;
          entries_are =
              first_seen limit all ∙ ap (take limit) s.entries_are ∙ first_whole limit xs s.later c.within;
          before = s.before;
          mid = s.mid;
          first = s.first;
          page = s.page;
          takes = s.takes;
          fits = s.fits;
          all_fit = s.all_fit;
          count = s.count;
          within = s.within;
          written = s.written;
        }

    -- it stopped after exactly as many entries as it was to take
    record Stopped (answered later : List (List ℕ)) : Type 0 where
      first_are : seen (take limit all) ≡ answered
      is_over : over ≡ true

    stopped : (old new : S) (answered later : List (List ℕ)) (answers : List Answer) → left old ≡ Some limit → is_part_over (left new) ≡ true
        → seen all ≡ answered ++ later → AnswersAll Answered old answered answers new → Stopped answered later
    stopped old new answered later answers is done are takes =
        let c = counted old new answered answers limit is takes in
        let none : limit - length answered ≡ 0 =
        eqb-true (limit - length answered) 0 (subst (λ (o : Option ℕ). is_part_over o ≡ true) c.rest done) in
        let total : length all ≡ length answered + length later = sym seen_length ∙ ap length are ∙ length-append answered later in
        let rest : limit - length all ≡ 0 = omega (arith, none, total) in
        record {
          first_are =
              first_seen limit all ∙ ap (take limit) are ∙ first_whole limit answered later c.within
              ∙ ap (λ (n : ℕ). answered ++ take n later) none ∙ append-nil answered;
          is_over = ap (λ (n : ℕ). n == 0) rest;
        }

    ends_none : (new : S) → over ≡ true → EndsWith Ended new (take 129 (if over then [] else frame.left [] text)) (record { text = []; is_error = false }) new
    ends_none new is =
        subst (λ (b : Bool). EndsWith Ended new (take 129 (if b then [] else frame.left [] text)) (record { text = []; is_error = false }) new) (sym is)
        (refl, refl, refl)

    pub pumps_first : (room most : ℕ) (old new : S) (pending : List ℕ) (j t u : Option (List ℕ)) (result : Result Summary IoError) → left old ≡ Some limit
        → PumpsText Answered Ended frame room most old pending text j t u result new
        → PumpsText Answered Ended (frame_part (Some limit) frame) room most old pending text (unread_after (Some limit) all j) t u result new
    pumps_first room most old new pending j t u (Ok summary) is p = (
      at_end over j p.0,
      record { output = p.1.output; of_text = output_first old new p.1.output summary.any_error is p.1.of_text; written = p.1.written },
    )
    pumps_first room most old new pending j t u (Err Read) is p =
        let c = counted old new (seen all) p.answers limit is p.takes in
        record {
          answers = p.answers;
          takes = subst (λ (l : List (List ℕ)). AnswersAll Answered old (seen l) p.answers new) (sym (all_first c.within)) p.takes;
          written = p.written;
        }
    pumps_first room most old new pending j t u (Err Write) is p = elim p [
      | inl s ↦ inl s
      | inr s ↦ elim s [
        | inl page ↦ inr (inl (page_first room most old new pending t u is page))
        | inr after ↦ inr (inr (at_end over j after.0, after_first old new pending t u is after.1))
      ]
    ]

    over_end : (j : Option (List ℕ)) → over ≡ true → IsAtEnd (unread_after (Some limit) all j)
    over_end j is = subst (λ (b : Bool). IsAtEnd (if b then None else j)) (sym is) tt

    pub stops_first : (room most : ℕ) (old new : S) (pending : List ℕ) (j t u : Option (List ℕ)) (result : Result Summary IoError) → left old ≡ Some limit
        → is_part_over (left new) ≡ true → StopsText Answered frame old pending text t u result new
        → PumpsText Answered Ended (frame_part (Some limit) frame) room most old pending text (unread_after (Some limit) all j) t u result new
    stops_first room most old new pending j t u (Ok summary) is done s =
        let stop = stopped old new s.answered s.later s.answers is done s.entries_are s.takes in (
          over_end j stop.is_over,
          record {
            output = answers_text s.answers;
            of_text = record {
              answers = s.answers;
              mid = new;
              takes = subst (λ (l : List (List ℕ)). AnswersAll Answered old l s.answers new) (sym stop.first_are) s.takes;
              ending = record { text = []; is_error = false };
              ends = ends_none new stop.is_over;
              output_is = sym (append-nil (answers_text s.answers));
              error_is = s.error_is ∙ or_false (list_any (λ (answer : Answer). answer.is_error) s.answers);
            };
            written = s.written;
          },
        )
    stops_first room most old new pending j t u (Err Read) is done s = absurd s
    stops_first room most old new pending j t u (Err Write) is done s =
        let early = s.1 in
        let stop = stopped old new early.answered early.later early.answers is done early.entries_are early.takes in
        inr (inr (
          over_end j stop.is_over,
          record {
            answers = early.answers;
            mid = new;
            takes = subst (λ (l : List (List ℕ)). AnswersAll Answered old l early.answers new) (sym stop.first_are) early.takes;
            ending = record { text = []; is_error = false };
            ends = ends_none new stop.is_over;
            count = 0;
            within = omega arith;
            written =
                subst (Appends t u) (sym (append-nil (pending ++ answers_text early.answers))) early.written;
          },
        ))
