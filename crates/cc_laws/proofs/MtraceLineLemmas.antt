-- The lines that mtrace writes report what happened.
use Rattle.std.proofs.Common.{◌≡◌, ◌≢◌, ℕ, false, ◌+◌, ◌-◌, ◌^◌, ◌<◌, ◌≤◌, ◌==◌, List, [], ◌∷◌, ◌++◌, take, drop, length, Ok, refl, ◌∙◌, ap, subst, arith}
use Rattle.std.specs.Char.{digit_value}
use Rattle.std.specs.Fmt.{digits}
use Rattle.std.specs.List.{AllByRecursion, after_first, before_first, position_or_len}
use Rattle.std.specs.Str.Parse.{AllDigits}
use Rattle.std.proofs.Math.Seq.{drop-append-add, take-append_seam}
use Rattle.std.proofs.lemmas.Bool.{eq-eqb, eqb-false, le-leb, le-ltb, ne_eqb}
use Rattle.std.proofs.lemmas.Fmt.{digits_is_IsNumeral}
use Rattle.cc_word.specs.WordText.{hexadecimal}
use Rattle.cc_values.specs.Values.{address_in, both}
use Rattle.cc_values.specs.Numbers.{within_limit}
use Rattle.cc_values.proofs.ReadBackLemmas.{hexadecimal-read}
use Rattle.cc_replay.specs.declared.report.LineReport.TheVariants as report
use Rattle.cc_replay.specs.Reports.{object_in, pointer_in}
use Rattle.cc_replay.specs.Mtrace.{IsCaller, allocation_line, free_line, mtrace_in, spaced_in}

-- the first byte of a value, after bytes of others
first_at : (at : ℕ) (before rest : List ℕ) → AllByRecursion (λ byte. byte ≢ at) before
    → position_or_len (λ byte. byte == at) (before ++ (at ∷ rest)) ≡ length before
first_at at [] rest none = rw (eq-eqb at at refl) refl
first_at at (x ∷ before) rest none =
    let later = first_at at before rest none.1 in
    rw (ne_eqb x at none.0) (omega (arith, later))

before_at : (at : ℕ) (before rest : List ℕ) → AllByRecursion (λ byte. byte ≢ at) before
    → before_first (λ byte. byte == at) (before ++ (at ∷ rest)) ≡ before
before_at at before rest none =
    ap (λ (n : ℕ). take n (before ++ (at ∷ rest))) (first_at at before rest none) ∙ take-append_seam before (at ∷ rest)

after_at : (at : ℕ) (before rest : List ℕ) → AllByRecursion (λ byte. byte ≢ at) before
    → after_first (λ byte. byte == at) (before ++ (at ∷ rest)) ≡ rest
after_at at before rest none =
    ap (λ (n : ℕ). drop (n + 1) (before ++ (at ∷ rest))) (first_at at before rest none) ∙ drop-append-add before (at ∷ rest) 1

-- a number in hexadecimal
digits_have_no_space : (ds : List ℕ) → AllDigits 16 ds → AllByRecursion (λ byte. byte ≢ 32) ds
digits_have_no_space [] are = tt
digits_have_no_space (d ∷ ds) are = (other, digits_have_no_space ds are.1) where
  other : d ≢ 32
  other is =
      let digit : digit_value 32 < 16 = subst (λ (c : ℕ). digit_value c < 16) is are.0 in
      absurd (omega (arith, digit))

no_space : (n : ℕ) → n < 2 ^ 64 → AllByRecursion (λ byte. byte ≢ 32) (hexadecimal n)
no_space n fits = (
  eqb-false 48 32 refl,
  (
    eqb-false 120 32 refl,
    digits_have_no_space (digits 16 false n)
        (digits_is_IsNumeral 16 false (omega arith) (omega arith) n (omega (arith, fits))).0.1,
  ),
)

address_is : (n : ℕ) → n < 2 ^ 64 → address_in (hexadecimal n) ≡ Ok n
address_is n fits =
    let less : n ≤ 2 ^ 64 - 1 = omega (arith, fits) in
    ap (within_limit (2 ^ 64 - 1)) (hexadecimal-read n (omega (arith, fits))) ∙ rw (le-leb n (2 ^ 64 - 1) less) refl

pointer_is : (n : ℕ) → n < 2 ^ 64 → pointer_in (hexadecimal n) ≡ Ok n
pointer_is n fits = address_is n fits

object_is : (pointer size : ℕ) → pointer < 2 ^ 64 → size < 2 ^ 64
    → object_in (hexadecimal pointer ++ (32 ∷ hexadecimal size)) ≡ Ok (pointer, size)
object_is pointer size fits other =
    (λ i. both (pointer_in (before_at 32 (hexadecimal pointer) (hexadecimal size) (no_space pointer fits) i))
    (address_in (after_at 32 (hexadecimal pointer) (hexadecimal size) (no_space pointer fits) i)))
    ∙ (λ i. both (pointer_is pointer fits i) (address_is size other i))

-- a line with a caller has the report of what follows it
line_is : (caller rest : List ℕ) → IsCaller caller → length (64 ∷ 32 ∷ (caller ++ (93 ∷ rest))) ≤ 128
    → mtrace_in (64 ∷ 32 ∷ (caller ++ (93 ∷ rest))) ≡ spaced_in rest
unfolding mtrace_in
line_is caller rest is short =
    rw (le-ltb 128 (length (64 ∷ 32 ∷ (caller ++ (93 ∷ rest)))) short) (ap spaced_in (after_at 93 caller rest is))

pub allocation_read : (caller : List ℕ) (pointer size : ℕ) → IsCaller caller
    → length (allocation_line caller pointer size) ≤ 128 → 0 < pointer → pointer < 2 ^ 64 → size < 2 ^ 64
    → mtrace_in (allocation_line caller pointer size) ≡ Ok (report.Allocation pointer size)
allocation_read caller pointer size is short some fits other =
    line_is caller (32 ∷ 43 ∷ 32 ∷ (hexadecimal pointer ++ (32 ∷ hexadecimal size))) is short
    ∙ rw (object_is pointer size fits other, ne_eqb pointer 0 (λ none. absurd (omega (arith, none, some)))) refl

pub free_read : (caller : List ℕ) (pointer : ℕ) → IsCaller caller → length (free_line caller pointer) ≤ 128
    → 0 < pointer → pointer < 2 ^ 64 → mtrace_in (free_line caller pointer) ≡ Ok (report.Free pointer)
free_read caller pointer is short some fits =
    line_is caller (32 ∷ 45 ∷ 32 ∷ hexadecimal pointer) is short
    ∙ rw (pointer_is pointer fits, ne_eqb pointer 0 (λ none. absurd (omega (arith, none, some)))) refl
