-- Numbers read digit by digit, up to a cap.
use Rattle.std.proofs.Common.{◌≡◌, ℕ, ◌+◌, ◌*◌, ◌≤◌, ◌<◌, ◌^◌, min, true, List, take, length, get_or, slice_index, ◌==◌, refl, sym, ◌∙◌, ap, arith, inl, inr}
use Rattle.std.proofs.lemmas.Bool.{cases_lt, lt-ltb, eqb-true, agree_below_at}
use Rattle.cc_values.specs.declared.digits.TheConstants.{DIGIT_VALUES}
use Rattle.std.proofs.Math.Nat.{mul-le-mul_left, mul-le-mul_right, mul_comm}
use Rattle.std.proofs.Math.Pow.{pow_mono}
use Rattle.std.proofs.lemmas.Nat.{pow-add}
use Rattle.std.proofs.lemmas.Int.Digits.{digits_value_more}
use Rattle.std.proofs.lemmas.List.Folds.{list_all_more}
use Rattle.std.specs.Char.{digit_value, is_digit}
use Rattle.std.specs.List.{list_all}
use Rattle.std.specs.Str.Parse.{digits_value}

-- A number that was cut to the cap counts as the number itself after one more digit.
pub cut_further : (cap radix number digit : ℕ) → 1 ≤ radix
    → min (min number cap * radix + digit) cap ≡ min (number * radix + digit) cap
cut_further cap radix number digit some = elim (cases_lt number cap) [
  | inl below ↦ let same : min number cap ≡ number = omega arith in rw same refl
  | inr above ↦
      let same : min number cap ≡ cap = omega arith in
      let cap_grows : 1 * cap ≤ radix * cap = mul-le-mul_right cap some in
      let number_grows : 1 * number ≤ radix * number = mul-le-mul_right number some in
      rw same (omega (arith, mul_comm radix cap, mul_comm radix number))
]

-- The number with one more digit, cut to the cap.
pub value_further : (cap radix i : ℕ) (digits : List ℕ) → 1 ≤ radix → i < length digits
    → min (min (digits_value radix (take i digits)) cap * radix + digit_value (get_or digits i 0)) cap
    ≡ min (digits_value radix (take (i + 1) digits)) cap
value_further cap radix i digits some within =
    cut_further cap radix (digits_value radix (take i digits)) (digit_value (get_or digits i 0)) some
    ∙ ap (λ (n : ℕ). min n cap) (sym (digits_value_more radix digits i within))

-- One more digit.
pub digits_further : (radix i : ℕ) (digits : List ℕ) → i < length digits
    → list_all (λ digit. is_digit digit radix) (take i digits) ≡ true → is_digit (get_or digits i 0) radix ≡ true
    → list_all (λ digit. is_digit digit radix) (take (i + 1) digits) ≡ true
digits_further radix i digits within before here =
    rw (list_all_more (λ digit. is_digit digit radix) digits i 0 within, before, here) refl

-- A byte whose value is below the radix is a digit.
pub digit_passes : (radix byte : ℕ) → digit_value byte < radix → is_digit byte radix ≡ true
digit_passes radix byte h = lt-ltb (digit_value byte) radix h

-- One more digit of a number whose digits fit.
pub short_further : (i number radix digit : ℕ) → number < 2 ^ (4 * i) → radix ≤ 16 → digit < radix → number * radix + digit < 2 ^ (4 * (i + 1))
short_further i number radix digit small high below =
    let more : 4 * (i + 1) ≡ 4 * i + 4 = omega arith in
    let power : 2 ^ (4 * i + 4) ≡ 2 ^ (4 * i) * 2 ^ 4 = pow-add 2 (4 * i) 4 in
    let grown : number * radix ≤ number * 16 = mul-le-mul_left number high in
    rw more (omega (arith, power, grown))

-- A number of at most sixteen such digits is below 2 ^ 64.
pub short_fits : (i n : ℕ) → i ≤ 16 → n < 2 ^ (4 * i) → n < 2 ^ 64
short_fits i n few small =
    let at_most : 4 * i ≤ 64 = omega arith in
    let power : 2 ^ (4 * i) ≤ 2 ^ 64 = pow_mono at_most in
    omega (arith, power)

pub short_product : (i number radix : ℕ) → i < 16 → number < 2 ^ (4 * i) → radix ≤ 16 → number * radix < 2 ^ 64
short_product i number radix few small high =
    let at_most : 4 * i ≤ 60 = omega arith in
    let power : 2 ^ (4 * i) ≤ 2 ^ 60 = pow_mono at_most in
    let grown : number * radix ≤ number * 16 = mul-le-mul_left number high in
    omega (arith, power, grown)

-- The table of digits has the value of each byte.
pub value_listed : (byte : ℕ) → byte < 256 → slice_index DIGIT_VALUES byte ≡ digit_value byte
value_listed byte fits =
    eqb-true (slice_index DIGIT_VALUES byte) (digit_value byte)
    (agree_below_at (λ b. slice_index DIGIT_VALUES b == digit_value b) (λ b. true) 256 byte refl fits)
