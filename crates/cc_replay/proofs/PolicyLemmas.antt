-- The strings that name a policy are read as it, and no other string is read.
use Rattle.std.proofs.Common.{◌≡◌, ℕ, ◌+◌, ◌-◌, ◌≤◌, ◌^◌, ◌&&◌, if◌then◌else◌, Bool, true, false, nat_eq, nat_le, nat_lt, List, [], ◌∷◌, ◌++◌, take, drop, length, codes, Option, Some, None}
use Rattle.std.specs.Prelude.{decimal}
use Rattle.std.proofs.Common.{◌<◌, Result, Ok, Err, refl, sym, ◌∙◌, ap, append-nil, arith, subst, inl, inr}
use Rattle.std.proofs.Math.Seq.{drop-append-add, drop-append_seam, take-append_seam}
use Rattle.std.proofs.lemmas.Bool.{eqb-true}
use Rattle.std.proofs.lemmas.List.{length-append, take-append-drop}
use Rattle.std.proofs.lemmas.Slice.Eq.{bytes_eq-Decides}
use Rattle.std.specs.Str.{bytes_eq}
use Rattle.std.specs.Str.Parse.{digits_value}
use Rattle.cc_word.specs.declared.refusal.Refusal.{Refusal}
use Rattle.cc_word.specs.declared.refusal.Refusal.TheVariants.{Syntax, OutOfRange}
use Rattle.cc_values.specs.Values.{address_in}
use Rattle.cc_values.specs.Numbers.{number_of, within_limit}
use Rattle.cc_heap.specs.declared.policy.Policy.{Policy}
use Rattle.cc_heap.specs.declared.policy.Policy.TheVariants.{Immediate, Never, Percent, Bytes, Frees, Trace}
use Rattle.cc_heap.specs.declared.policy.Share.{Share}
use Rattle.cc_heap.specs.declared.policy.Share.TheVariants.{Held, Live, High}
use Rattle.cc_replay.specs.PolicyText.{HasNumber, IsPolicyText, after, as_percent, before, has_prefix, has_suffix, in_range, numbered_in, of_percent, percent_in, policy_in, policy_text, with_number}
use Rattle.cc_values.proofs.ReadBackLemmas.{decimal-read}

-- ---- the end of a string

before_end : (xs suffix : List ℕ) → length (xs ++ suffix) - length suffix ≡ length xs
before_end xs suffix = omega (arith, length-append xs suffix)

ends : (xs suffix : List ℕ) → has_suffix suffix (xs ++ suffix) ≡ true
ends xs suffix =
    ap (λ (n : ℕ). bytes_eq (drop n (xs ++ suffix)) suffix) (before_end xs suffix)
    ∙ ap (λ (bytes : List ℕ). bytes_eq bytes suffix) (drop-append_seam xs suffix)
    ∙ (bytes_eq-Decides suffix suffix).1 refl

begins : (xs suffix : List ℕ) → before suffix (xs ++ suffix) ≡ xs
begins xs suffix = ap (λ (n : ℕ). take n (xs ++ suffix)) (before_end xs suffix) ∙ take-append_seam xs suffix

-- how a string ends that is no longer than the end of another
ends_so : (xs ending suffix : List ℕ) → length suffix ≤ length ending → has_suffix suffix (xs ++ ending) ≡ has_suffix suffix ending
ends_so xs ending suffix within =
    let at : length (xs ++ ending) - length suffix ≡ length xs + (length ending - length suffix) =
    omega (arith, length-append xs ending, within) in
    ap (λ (n : ℕ). bytes_eq (drop n (xs ++ ending)) suffix) at
    ∙ ap (λ (bytes : List ℕ). bytes_eq bytes suffix) (drop-append-add xs ending (length ending - length suffix))

-- ---- percentages

default_share : (digits : List ℕ) → percent_in (digits ++ codes "%") ≡ of_percent Held digits
default_share digits = rw (ends digits (codes "%"), begins digits (codes "%")) refl

held_share : (digits : List ℕ) → percent_in (digits ++ codes "%:held") ≡ of_percent Held digits
held_share digits =
    rw (ends_so digits (codes "%:held") (codes "%") (omega (arith)), ends digits (codes "%:held"), begins digits (codes "%:held")) refl

live_share : (digits : List ℕ) → percent_in (digits ++ codes "%:live") ≡ of_percent Live digits
live_share digits =
    rw (
      ends_so digits (codes "%:live") (codes "%") (omega (arith)),
      ends_so digits (codes "%:live") (codes "%:held") (omega (arith)),
      ends digits (codes "%:live"),
      begins digits (codes "%:live"),
    ) refl

high_share : (digits : List ℕ) → percent_in (digits ++ codes "%:high") ≡ of_percent High digits
high_share digits =
    rw (
      ends_so digits (codes "%:high") (codes "%") (omega (arith)),
      ends_so digits (codes "%:high") (codes "%:held") (omega (arith)),
      ends_so digits (codes "%:high") (codes "%:live") (omega (arith)),
      ends digits (codes "%:high"),
      begins digits (codes "%:high"),
    ) refl

-- ---- a number does not begin as a name does

differs : (c d : ℕ) (ds : List ℕ) (n : ℕ) → number_of (c ∷ ds) ≡ None → number_of (d ∷ ds) ≡ Some n → nat_eq d c ≡ false
differs c d ds n none some = by (nat_eq d c) refl where
  by : (same : Bool) → nat_eq d c ≡ same → same ≡ false
  by true is =
      let wrong : None ≡ Some n = sym none ∙ ap (λ (byte : ℕ). number_of (byte ∷ ds)) (sym (eqb-true d c is)) ∙ some in absurd cc
  by false is = refl

not_both : (some : Bool) (value : ℕ) → (if some && false then Some value else None) ≡ None
not_both true value = refl
not_both false value = refl

is_percent : (digits rest : List ℕ) (n : ℕ) → number_of digits ≡ Some n → policy_in (digits ++ rest) ≡ percent_in (digits ++ rest)
is_percent [] rest n is = absurd cc
is_percent (d ∷ ds) rest n is =
    rw (
      differs 110 d ds n (not_both (nat_lt 0 (length (110 ∷ ds))) (digits_value 10 (110 ∷ ds))) is,
      differs 116 d ds n (not_both (nat_lt 0 (length (116 ∷ ds))) (digits_value 10 (116 ∷ ds))) is,
      differs 98 d ds n (not_both (nat_lt 0 (length (98 ∷ ds))) (digits_value 10 (98 ∷ ds))) is,
      differs 102 d ds n (not_both (nat_lt 0 (length (102 ∷ ds))) (digits_value 10 (102 ∷ ds))) is,
    ) refl

-- ---- each policy

percent_read : (share : Share) (suffix text : List ℕ) (percent : ℕ) → HasNumber [] suffix text percent
    → ((digits : List ℕ) → percent_in (digits ++ suffix) ≡ of_percent share digits)
    → policy_in text ≡ in_range (Percent percent share)
percent_read share suffix text percent has shares =
    ap policy_in has.whole ∙ is_percent has.digits suffix percent has.is_number ∙ shares has.digits
    ∙ ap (λ (number : Option ℕ). as_percent share (within_limit (2 ^ 64 - 1) number)) has.is_number

pub texts_are_read : (policy : Policy) (text : List ℕ) → IsPolicyText policy text → policy_in text ≡ in_range policy
texts_are_read Immediate text is = ap policy_in is
texts_are_read Never text is = ap policy_in is
texts_are_read Trace text is = ap policy_in is
texts_are_read (Bytes bytes) text is =
    ap policy_in is.whole
    ∙ ap (λ (digits : List ℕ). with_number Bytes (within_limit (2 ^ 64 - 1) (number_of digits))) (append-nil is.digits)
    ∙ ap (λ (number : Option ℕ). with_number Bytes (within_limit (2 ^ 64 - 1) number)) is.is_number
texts_are_read (Frees frees) text is =
    ap policy_in is.whole
    ∙ ap (λ (digits : List ℕ). with_number Frees (within_limit (2 ^ 64 - 1) (number_of digits))) (append-nil is.digits)
    ∙ ap (λ (number : Option ℕ). with_number Frees (within_limit (2 ^ 64 - 1) number)) is.is_number
texts_are_read (Percent percent Held) text (inl is) = percent_read Held (codes "%") text percent is default_share
texts_are_read (Percent percent Held) text (inr is) = percent_read Held (codes "%:held") text percent is held_share
texts_are_read (Percent percent Live) text is = percent_read Live (codes "%:live") text percent is live_share
texts_are_read (Percent percent High) text is = percent_read High (codes "%:high") text percent is high_share

-- ---- no other string is read

-- a percentage that is read has a number
percent_number : (share : Share) (digits : List ℕ) (policy : Policy) → of_percent share digits ≡ Ok policy
    → (n : ℕ) × (policy ≡ Percent n share) × (number_of digits ≡ Some n)
percent_number share digits policy read = by (number_of digits) refl read where
  small : (n : ℕ) (is_small : Bool) → (if is_small then Ok (Percent n share) else Err OutOfRange) ≡ Ok policy → policy ≡ Percent n share
  small n true e = cc
  small n false e = absurd cc

  within : (n : ℕ) (is_within : Bool) → as_percent share (if is_within then Ok n else Err OutOfRange) ≡ Ok policy → policy ≡ Percent n share
  within n true e = small n (nat_le n (2 ^ 32 - 1)) e
  within n false e = absurd cc

  by : (found : Option ℕ) → number_of digits ≡ found → as_percent share (within_limit (2 ^ 64 - 1) found) ≡ Ok policy
      → (n : ℕ) × (policy ≡ Percent n share) × (number_of digits ≡ Some n)
  by (Some n) is e = (n, within n (nat_le n (2 ^ 64 - 1)) e, is)
  by None is e = absurd cc

-- another number that is read
other_number : (make : ℕ → Policy) (digits : List ℕ) (policy : Policy) → with_number make (address_in digits) ≡ Ok policy
    → (n : ℕ) × (policy ≡ make n) × (number_of digits ≡ Some n)
other_number make digits policy read = by (number_of digits) refl read where
  within : (n : ℕ) (is_within : Bool) → with_number make (if is_within then Ok n else Err OutOfRange) ≡ Ok policy → policy ≡ make n
  within n true e = cc
  within n false e = absurd cc

  by : (found : Option ℕ) → number_of digits ≡ found → with_number make (within_limit (2 ^ 64 - 1) found) ≡ Ok policy
      → (n : ℕ) × (policy ≡ make n) × (number_of digits ≡ Some n)
  by (Some n) is e = (n, within n (nat_le n (2 ^ 64 - 1)) e, is)
  by None is e = absurd cc

share_named : (share : Share) (suffix text : List ℕ) (policy : Policy) → has_suffix suffix text ≡ true
    → of_percent share (before suffix text) ≡ Ok policy → (n : ℕ) × (policy ≡ Percent n share) × HasNumber [] suffix text n
share_named share suffix text policy is_end read =
    let number = percent_number share (before suffix text) policy read in
    let end : drop (length text - length suffix) text ≡ suffix =
    (bytes_eq-Decides (drop (length text - length suffix) text) suffix).0 is_end in (
      number.0,
      number.1,
      record {
        digits = before suffix text;
        whole = sym (take-append-drop (length text - length suffix) text) ∙ ap (λ (bytes : List ℕ). before suffix text ++ bytes) end;
        is_number = number.2;
      },
    )

count_named : (make : ℕ → Policy) (prefix text : List ℕ) (policy : Policy) → has_prefix prefix text ≡ true
    → with_number make (address_in (after prefix text)) ≡ Ok policy → (n : ℕ) × (policy ≡ make n) × HasNumber prefix [] text n
count_named make prefix text policy is_start read =
    let number = other_number make (after prefix text) policy read in
    let beginning : take (length prefix) text ≡ prefix = (bytes_eq-Decides (take (length prefix) text) prefix).0 is_start in (
      number.0,
      number.1,
      record {
        digits = after prefix text;
        whole = sym (take-append-drop (length prefix) text) ∙ ap (λ (bytes : List ℕ). bytes ++ after prefix text) beginning
            ∙ sym (append-nil (prefix ++ after prefix text));
        is_number = number.2;
      },
    )

percent_named : (text : List ℕ) (policy : Policy) → percent_in text ≡ Ok policy → IsPolicyText policy text
percent_named text policy read = first (has_suffix (codes "%") text) refl read where
  fourth : (is_end : Bool) → has_suffix (codes "%:high") text ≡ is_end
      → (if is_end then of_percent High (before (codes "%:high") text) else Err Syntax) ≡ Ok policy → IsPolicyText policy text
  fourth true is e =
      let it = share_named High (codes "%:high") text policy is e in
      subst (λ (p : Policy). IsPolicyText p text) (sym it.1) it.2
  fourth false is e = absurd cc

  third : (is_end : Bool) → has_suffix (codes "%:live") text ≡ is_end
      → (if is_end then of_percent Live (before (codes "%:live") text)
      else if has_suffix (codes "%:high") text then of_percent High (before (codes "%:high") text) else Err Syntax) ≡ Ok policy
      → IsPolicyText policy text
  third true is e =
      let it = share_named Live (codes "%:live") text policy is e in
      subst (λ (p : Policy). IsPolicyText p text) (sym it.1) it.2
  third false is e = fourth (has_suffix (codes "%:high") text) refl e

  second : (is_end : Bool) → has_suffix (codes "%:held") text ≡ is_end
      → (if is_end then of_percent Held (before (codes "%:held") text)
      else if has_suffix (codes "%:live") text then of_percent Live (before (codes "%:live") text)
      else if has_suffix (codes "%:high") text then of_percent High (before (codes "%:high") text) else Err Syntax) ≡ Ok policy
      → IsPolicyText policy text
  second true is e =
      let it = share_named Held (codes "%:held") text policy is e in
      subst (λ (p : Policy). IsPolicyText p text) (sym it.1) (inr it.2)
  second false is e = third (has_suffix (codes "%:live") text) refl e

  first : (is_end : Bool) → has_suffix (codes "%") text ≡ is_end
      → (if is_end then of_percent Held (before (codes "%") text)
      else if has_suffix (codes "%:held") text then of_percent Held (before (codes "%:held") text)
      else if has_suffix (codes "%:live") text then of_percent Live (before (codes "%:live") text)
      else if has_suffix (codes "%:high") text then of_percent High (before (codes "%:high") text) else Err Syntax) ≡ Ok policy
      → IsPolicyText policy text
  first true is e =
      let it = share_named Held (codes "%") text policy is e in
      subst (λ (p : Policy). IsPolicyText p text) (sym it.1) (inl it.2)
  first false is e = second (has_suffix (codes "%:held") text) refl e

numbered_named : (text : List ℕ) (policy : Policy) → numbered_in text ≡ Ok policy → IsPolicyText policy text
numbered_named text policy read = first (has_prefix (codes "bytes:") text) refl read where
  second : (is_start : Bool) → has_prefix (codes "frees:") text ≡ is_start
      → (if is_start then with_number Frees (address_in (after (codes "frees:") text)) else percent_in text) ≡ Ok policy
      → IsPolicyText policy text
  second true is e =
      let it = count_named Frees (codes "frees:") text policy is e in
      subst (λ (p : Policy). IsPolicyText p text) (sym it.1) it.2
  second false is e = percent_named text policy e

  first : (is_start : Bool) → has_prefix (codes "bytes:") text ≡ is_start
      → (if is_start then with_number Bytes (address_in (after (codes "bytes:") text))
      else if has_prefix (codes "frees:") text then with_number Frees (address_in (after (codes "frees:") text)) else percent_in text) ≡ Ok policy
      → IsPolicyText policy text
  first true is e =
      let it = count_named Bytes (codes "bytes:") text policy is e in
      subst (λ (p : Policy). IsPolicyText p text) (sym it.1) it.2
  first false is e = second (has_prefix (codes "frees:") text) refl e

named : (policy other : Policy) (text name : List ℕ) → bytes_eq text name ≡ true
    → ◌≡◌ {A = Result Policy Refusal} (Ok other) (Ok policy) → IsPolicyText other name
    → IsPolicyText policy text
named policy other text name is e has =
    let same : other ≡ policy = cc in
    subst (λ (bytes : List ℕ). IsPolicyText policy bytes) (sym ((bytes_eq-Decides text name).0 is))
    (subst (λ (p : Policy). IsPolicyText p name) same has)

pub read_texts : (text : List ℕ) (policy : Policy) → policy_in text ≡ Ok policy → IsPolicyText policy text
read_texts text policy read = first (bytes_eq text (codes "none")) refl read where
  third : (is_name : Bool) → bytes_eq text (codes "trace") ≡ is_name
      → (if is_name then Ok Trace else numbered_in text) ≡ Ok policy → IsPolicyText policy text
  third true is e = named policy Trace text (codes "trace") is e refl
  third false is e = numbered_named text policy e

  second : (is_name : Bool) → bytes_eq text (codes "never") ≡ is_name
      → (if is_name then Ok Never else if bytes_eq text (codes "trace") then Ok Trace else numbered_in text) ≡ Ok policy
      → IsPolicyText policy text
  second true is e = named policy Never text (codes "never") is e refl
  second false is e = third (bytes_eq text (codes "trace")) refl e

  first : (is_name : Bool) → bytes_eq text (codes "none") ≡ is_name
      → (if is_name then Ok Immediate else if bytes_eq text (codes "never") then Ok Never
      else if bytes_eq text (codes "trace") then Ok Trace else numbered_in text) ≡ Ok policy
      → IsPolicyText policy text
  first true is e = named policy Immediate text (codes "none") is e refl
  first false is e = second (bytes_eq text (codes "never")) refl e

-- ---- the string of a policy names it

pub bytes_named : (n : ℕ) → n < 2 ^ 64 → IsPolicyText (Bytes n) (policy_text (Bytes n))
bytes_named n fits = record { digits = decimal n; whole = sym (append-nil (codes "bytes:" ++ decimal n)); is_number = decimal-read n (omega (arith, fits)) }

pub frees_named : (n : ℕ) → n < 2 ^ 64 → IsPolicyText (Frees n) (policy_text (Frees n))
frees_named n fits = record { digits = decimal n; whole = sym (append-nil (codes "frees:" ++ decimal n)); is_number = decimal-read n (omega (arith, fits)) }

pub percentage_named : (n : ℕ) (share : Share) → n < 2 ^ 64 → IsPolicyText (Percent n share) (policy_text (Percent n share))
percentage_named n Held fits = inl (record { digits = decimal n; whole = refl; is_number = decimal-read n (omega (arith, fits)) })
percentage_named n Live fits = record { digits = decimal n; whole = refl; is_number = decimal-read n (omega (arith, fits)) }
percentage_named n High fits = record { digits = decimal n; whole = refl; is_number = decimal-read n (omega (arith, fits)) }
