-- Reading and dropping the first bytes of a source.
use Rattle.std.proofs.Common.{
  ◌≡◌,
  ◌⊎◌,
  ℕ,
  ◌+◌,
  ◌-◌,
  ◌<◌,
  ◌≤◌,
  zero,
  suc,
  true,
  false,
  List,
  [],
  ◌∷◌,
  ◌++◌,
  length,
  drop,
  refl,
  sym,
  ◌∙◌,
  ap,
  subst,
  arith,
  append-nil,
  inl,
  inr,
  Option,
  Some,
  None,
  Result,
  Ok,
  Err,
  Bool,
  append_assoc,
  length-take,
  take,
}
use Rattle.std.specs.Prelude.{IfSome, ◌||◌, ◌==◌, not}
use Rattle.std.proofs.lemmas.Bool.{cases_lt, false≢true}
use Rattle.std.proofs.lemmas.List.{length-append, take-append-drop}
use Rattle.std.specs.Io.KnownBytes.{Appends, Consumes, IsAtEnd}
use Rattle.std.proofs.KnownBytes.{Consumes-nil, Consumes-trans}
use Rattle.std.proofs.Math.ListN.{drop_of_length-le}
use Rattle.cc_io.specs.Devices.{InputState, IsOutcome, OutputState, SendsBytes, TakesPrefix}
use Rattle.cc_io.specs.Serving.{ServesText}
use Rattle.cc_io.specs.declared.input_form.InputForm.{InputForm}
use Rattle.cc_io.specs.declared.input_form.InputForm.TheVariants.{Lines, Bytes}
use Rattle.cc_io.specs.declared.devices.Failed.{Failed}
use Rattle.cc_io.specs.declared.summary.IoError.{IoError}
use Rattle.cc_io.specs.declared.summary.IoError.TheVariants.{Read, Write}
use Rattle.cc_io.specs.declared.summary.Summary.{Summary}
use Rattle.cc_decode.specs.Correct.{IsPast, Lists}
use Rattle.cc_decode.specs.Input.{frame_of, input_entries}
use Rattle.cc_decode.specs.Output.{AreAnswers, EndsListing, IsEnding}
use Rattle.cc_decode.specs.Part.{frame_part, unread_after}
use Rattle.cc_decode.specs.Place.{header_of}
use Rattle.cc_decode.specs.Skip.{Skips}
use Rattle.cc_decode.specs.declared.options.Options.{Options}
use Rattle.cc_decode.specs.declared.options.Part.{Part}

-- the source gave all bytes to be skipped except `rest`
pub record Skipping (count rest : ℕ) (unread left : Option (List ℕ)) : Type 0 where
  pub text : List ℕ
  pub given : Consumes unread left text
  pub counted : length text + rest ≡ count

pub skipping_more : (count rest n : ℕ) (a b c : Option (List ℕ)) (bytes : List ℕ) → Skipping count rest a b → Consumes b c bytes → length bytes ≡ n → n ≤ rest
    → Skipping count (rest - n) a c
skipping_more count rest n a b c bytes skipped given sized fits = record {
  text = skipped.text ++ bytes;
  given = Consumes-trans a b c skipped.text bytes skipped.given given;
  counted = omega (arith, length-append skipped.text bytes, sized, fits, skipped.counted);
}

-- ---- the text after the skipped bytes

dropped : (xs ys : List ℕ) → drop (length xs) (xs ++ ys) ≡ ys
dropped [] ys = refl
dropped (x ∷ xs) ys = dropped xs ys

-- some bytes of this number
abbrev filler : ℕ → List ℕ
filler zero = []
filler (suc n) = 0 ∷ filler n

length-filler : (n : ℕ) → length (filler n) ≡ n
length-filler zero = refl
length-filler (suc n) = ap suc (length-filler n)

drop-filler : (n : ℕ) (ys : List ℕ) → drop n (filler n ++ ys) ≡ ys
drop-filler zero ys = refl
drop-filler (suc n) ys = drop-filler n ys

-- the whole of a text whose first bytes were skipped
record Whole (count : ℕ) (unread left : Option (List ℕ)) (rest : List ℕ) : Type 0 where
  pub text : List ℕ
  pub given : Consumes unread left text
  pub past : IsPast count text left
  pub rest_is : rest ≡ drop count text

left_is_nil : (xs ys : List ℕ) → xs ++ ys ≡ [] → xs ≡ []
left_is_nil [] ys e = refl
left_is_nil (x ∷ xs) ys e = cc (e)

right_is_nil : (xs ys : List ℕ) → xs ++ ys ≡ [] → ys ≡ []
right_is_nil xs ys e = sym (ap (λ (l : List ℕ). l ++ ys) (left_is_nil xs ys e)) ∙ e

whole : (count : ℕ) (a b c : Option (List ℕ)) (text rest : List ℕ) → Consumes a b text → (length text ≡ count) ⊎ ((length text < count) × IsAtEnd b) → Consumes b c rest
    → Whole count a c rest
whole count None b c text rest given ends after = record {
  text = filler count ++ rest;
  given = tt;
  past = inl (omega (arith, length-append (filler count) rest, length-filler count));
  rest_is = sym (drop-filler count rest);
}
whole count (Some xs) None c text rest given ends after = absurd given
whole count (Some xs) (Some ys) None text rest given ends after = absurd after
whole count (Some xs) (Some ys) (Some zs) text rest given ends after = record {
  text = text ++ rest;
  given = Consumes-trans (Some xs) (Some ys) (Some zs) text rest given after;
  past = elim ends [
    | inl all ↦ inl (omega (arith, length-append text rest, all))
    | inr fewer ↦ inr (right_is_nil rest zs (sym after ∙ fewer.1))
  ];
  rest_is = elim ends [
    | inl all ↦ sym (ap (λ (n : ℕ). drop n (text ++ rest)) (sym all) ∙ dropped text rest)
    | inr fewer ↦
        let none : rest ≡ [] = left_is_nil rest zs (sym after ∙ fewer.1) in
        none ∙ sym (ap (λ (l : List ℕ). drop count (text ++ l)) none ∙ ap (drop count) (append-nil text) ∙ drop_of_length-le text (omega (arith, fewer.0)))
  ];
}

-- the listing of the part after the skipped bytes
pub lists_after : (part : Part) (options : Options) (a b c : InputState) (t u : OutputState) (result : Result Summary IoError) (text : List ℕ)
    → Skips {E = Failed} part.skipped a b (Ok tt) → Consumes b.unread c.unread text → IsOutcome c u result
    → ServesText (AreAnswers options) (EndsListing options) (frame_part part.count (frame_of options.input)) 32768 512 (header_of options) text
    (unread_after part.count (input_entries options.input text) c.unread) t.taken u.taken result → Lists part options a c t u result
lists_after part options a b c t u result text skips given outcome serves =
    let w = whole part.skipped a.unread b.unread c.unread skips.text text skips.given skips.ends given in
    record {
      text = w.text;
      given = w.given;
      lists =
          inr (
            w.past,
            subst (λ (l : List ℕ). ServesText (AreAnswers options) (EndsListing options) (frame_part part.count (frame_of options.input)) 32768 512 (header_of options) l
                (unread_after part.count (input_entries options.input l) c.unread) t.taken u.taken result) w.rest_is serves,
          );
      outcome = outcome;
    }

-- the source failed among the skipped bytes
pub lists_none : (part : Part) (options : Options) (a b : InputState) (t : OutputState) (failed : Failed) → Skips part.skipped a b (Err failed) → t.has_failed ≡ false
    → Lists part options a b t t (Err Read)
lists_none part options a b t failed skips works = record {
  text = skips.text;
  given = skips.given;
  lists = inl (refl, skips.fewer, refl);
  outcome = record {
    read = (λ _. skips.fails.0 refl, λ _. refl);
    write = (λ is. cc (is), λ failed. absurd (cc (works, failed)));
    flushed = tt;
  };
}

-- ---- no entry is decoded

-- no entry of an empty text is decoded, and nothing is left of it
over_none : (input : InputForm) (left : Option (List ℕ)) → IsAtEnd (unread_after (Some 0) (input_entries input []) left)
over_none Lines left = tt
over_none (Bytes order) left = tt

rest_none : (input : InputForm) → (frame_part (Some 0) (frame_of input)).left [] [] ≡ []
rest_none Lines = refl
rest_none (Bytes order) = refl

ends_none : (options : Options) → IsEnding options ((frame_part (Some 0) (frame_of options.input)).left [] []) []
ends_none options = subst (λ (rest : List ℕ). IsEnding options rest []) (sym (rest_none options.input)) refl

-- what is written of no entries
abbrev Heads : (count : Option ℕ) (options : Options) (header : List ℕ) (left t u : Option (List ℕ)) → Result Summary IoError → Type 0
Heads count options header left t u result =
    ServesText (AreAnswers options) (EndsListing options) (frame_part count (frame_of options.input)) 32768 512 header [] (unread_after count (input_entries options.input []) left) t u result

-- the flush failed, or a write of the header did
stops_header : (options : Options) (header : List ℕ) (left t u : Option (List ℕ)) → TakesPrefix t u header → Heads (Some 0) options header left t u (Err Write)
stops_header options [] left t u took =
    inr (inr (
      over_none options.input left,
      record {
        answers = [];
        are_answers = tt;
        ending = [];
        is_ending = ends_none options;
        count = 0;
        within = omega arith;
        written = nothing took.count took.taken;
      },
    ))
  where
    nothing : (count : ℕ) → Appends t u (take count []) → Appends t u []
    nothing zero appends = appends
    nothing (suc count) appends = appends
stops_header options (byte ∷ header) left t u took = inl (refl, record { some = omega arith; are_answers = tt; written = took })

wrote_header : (options : Options) (header : List ℕ) (left t u : Option (List ℕ)) → Appends t u header
    → Heads (Some 0) options header left t u (Ok (record { any_error = false }))
wrote_header options header left t u wrote = (
  over_none options.input left,
  record {
    answers = [];
    are_answers = tt;
    ending = [];
    is_ending = ends_none options;
    written = subst (Appends t u) (sym (append-nil (header ++ []) ∙ append-nil header)) wrote;
    error_is = subst (λ (rest : List ℕ). false ≡ (false || not (length rest == 0))) (sym (rest_none options.input)) refl;
  },
)

-- a source that skipped has not failed
works_after : {count : ℕ} {a b : InputState} → Skips {E = Failed} count a b (Ok tt) → false ≡ b.has_failed
works_after {count} {a} {b} skips = by b.has_failed (λ failed. false≢true (skips.fails.1 failed)) where
  by : (failed : Bool) → (failed ≡ true → ⊥) → false ≡ failed
  by false works = refl
  by true works = absurd (works refl)

-- the header was written
pub lists_header : (part : Part) (options : Options) (a b : InputState) (t u : OutputState) (header : List ℕ) → part.count ≡ Some 0 → header ≡ header_of options
    → Skips {E = Failed} part.skipped a b (Ok tt) → SendsBytes {E = IoError} t u header (Ok tt) → Lists part options a b t u (Ok (record { any_error = false }))
lists_header part options a b t u header none is skips sends =
    lists_after part options a b b t u (Ok (record { any_error = false })) [] skips (Consumes-nil b.unread)
    (record {
      read = (λ no. absurd (cc no), λ failed. absurd (false≢true (works_after skips ∙ failed)));
      write = (λ no. absurd (cc no), λ failed. cc (sends.fails.1 failed));
      flushed = sends.flushed;
    })
    (subst (λ (l : List ℕ). Heads part.count options l b.unread t.taken u.taken (Ok (record { any_error = false }))) is
    (subst (λ (count : Option ℕ). Heads count options header b.unread t.taken u.taken (Ok (record { any_error = false }))) (sym none)
    (wrote_header options header b.unread t.taken u.taken sends.ok)))

-- the sink failed
pub stops_at_header : (part : Part) (options : Options) (a b : InputState) (t u : OutputState) (header : List ℕ) (error : IoError) (result : Result Summary IoError)
    → part.count ≡ Some 0 → header ≡ header_of options → Skips {E = Failed} part.skipped a b (Ok tt) → SendsBytes t u header (Err error) → error ≡ Write → result ≡ Err error
    → Lists part options a b t u result
stops_at_header part options a b t u header error result none is skips sends write stops =
    subst (λ (r : Result Summary IoError). Lists part options a b t u r) (sym (stops ∙ ap Err write))
    (lists_after part options a b b t u (Err Write) [] skips (Consumes-nil b.unread)
    (record {
      read = (λ no. absurd (cc no), λ failed. absurd (false≢true (works_after skips ∙ failed)));
      write = (λ _. sends.fails.0 refl, λ _. refl);
      flushed = tt;
    })
    (subst (λ (l : List ℕ). Heads part.count options l b.unread t.taken u.taken (Err Write)) is
    (subst (λ (count : Option ℕ). Heads count options header b.unread t.taken u.taken (Err Write)) (sym none)
    (stops_header options header b.unread t.taken u.taken sends.err))))

-- ---- bytes that were passed before the source was read

drop_past : (xs ys : List ℕ) (n : ℕ) → drop (length xs + n) (xs ++ ys) ≡ drop n ys
drop_past [] ys n = let same : 0 + n ≡ n = omega arith in ap (λ (k : ℕ). drop k ys) same
drop_past (x ∷ xs) ys n =
    let same : suc (length xs) + n ≡ suc (length xs + n) = omega arith in
    ap (λ (k : ℕ). drop k (x ∷ (xs ++ ys))) same ∙ drop_past xs ys n

-- the bytes that were passed, and those that the source gave
record Passed (passed skipped : ℕ) (unread left : Option (List ℕ)) (text : List ℕ) : Type 0 where
  pub whole : List ℕ
  pub given : Consumes unread left whole
  pub few : length whole ≤ passed + length text
  pub past : IsPast (skipped - passed) text left → IsPast skipped whole left
  pub rest_is : drop (skipped - passed) text ≡ drop skipped whole

pass : (passed skipped : ℕ) (bytes unread left : Option (List ℕ)) (text : List ℕ) → passed ≤ skipped → IfSome bytes (λ xs. unread ≡ Some (drop passed xs))
    → Consumes unread left text → Passed passed skipped bytes left text
pass passed skipped None unread left text fits known given = record {
  whole = filler passed ++ text;
  given = tt;
  few = omega (arith, length-append (filler passed) text, length-filler passed);
  past = λ p. elim p [
    | inl enough ↦ inl (omega (arith, length-append (filler passed) text, length-filler passed, enough))
    | inr over ↦ inr over
  ];
  rest_is =
      let same : skipped ≡ length (filler passed) + (skipped - passed) = omega (arith, fits, length-filler passed) in
      sym (ap (λ (n : ℕ). drop n (filler passed ++ text)) same ∙ drop_past (filler passed) text (skipped - passed));
}
pass passed skipped (Some xs) unread left text fits known given = known_pass left (subst (λ (o : Option (List ℕ)). Consumes o left text) known given) where
  start : List ℕ
  start = take passed xs

  known_pass : (left : Option (List ℕ)) → Consumes (Some (drop passed xs)) left text → Passed passed skipped (Some xs) left text
  known_pass None given = absurd given
  known_pass (Some zs) given =
      let size = length-take passed xs in
      record {
        whole = start ++ text;
        given = sym (take-append-drop passed xs) ∙ ap (λ (l : List ℕ). start ++ l) given ∙ sym (append_assoc start text zs);
        few = omega (arith, length-append start text, size);
        past = λ p. elim p [
          | inl enough ↦
              elim (cases_lt (length xs) passed) [
                | inl short ↦ inr (right_is_nil text zs (sym given ∙ drop_of_length-le xs (omega (arith, short))))
                | inr long ↦ inl (omega (arith, length-append start text, size, long, enough))
              ]
          | inr over ↦ inr over
        ];
        rest_is = elim (cases_lt (length xs) passed) [
          | inl short ↦
              let none : text ≡ [] = left_is_nil text zs (sym given ∙ drop_of_length-le xs (omega (arith, short))) in
              let total : length (start ++ text) ≤ skipped = omega (arith, length-append start text, size, ap length none, short, fits) in
              drop_of_length-le text (omega (arith, ap length none)) ∙ sym (drop_of_length-le (start ++ text) total)
          | inr long ↦
              let same : skipped ≡ length start + (skipped - passed) = omega (arith, fits, size, long) in
              sym (ap (λ (n : ℕ). drop n (start ++ text)) same ∙ drop_past start text (skipped - passed))
        ];
      }

-- the listing of a part of an input whose first bytes were passed
pub lists_further : (passed : ℕ) (part : Part) (options : Options) (bytes : Option (List ℕ)) (a c : InputState) (t u : OutputState) (result : Result Summary IoError)
    → passed ≤ part.skipped → IfSome bytes (λ xs. a.unread ≡ Some (drop passed xs))
    → Lists (record { skipped = part.skipped - passed; count = part.count }) options a c t u result
    → Lists part options (record { unread = bytes; most_unread = 0; has_failed = false }) c t u result
lists_further passed part options bytes a c t u result fits known l =
    let w = pass passed part.skipped bytes a.unread c.unread l.text fits known l.given in
    record {
      text = w.whole;
      given = w.given;
      lists = elim l.lists [
        | inl failed ↦ inl (failed.0, omega (arith, w.few, failed.1, fits), failed.2)
        | inr serves ↦
            inr (
              w.past serves.0,
              subst (λ (rest : List ℕ). ServesText (AreAnswers options) (EndsListing options) (frame_part part.count (frame_of options.input)) 32768 512 (header_of options) rest
                  (unread_after part.count (input_entries options.input rest) c.unread) t.taken u.taken result) w.rest_is serves.1,
            )
      ];
      outcome = l.outcome;
    }
