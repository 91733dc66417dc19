-- The sixteen characters of a row's rights, and the digits of an exponent.
use mir.Val.{bool_byte}
use Rattle.std.proofs.Common.{◌≡◌, ◌∙◌, ℕ, ◌+◌, ◌-◌, ◌*◌, ◌/◌, ◌%◌, ◌^◌, ◌<◌, ◌==◌, ltb, ltb-true, ltb-false, min, arith, ap, refl, sym}
use Rattle.std.proofs.Common.{Bool, true, false, if◌then◌else◌, List, [], ◌∷◌, ◌++◌, decimal, slice_index, length, length-append, take}
use Rattle.std.proofs.Math.Seq.{take-append-add}
use Rattle.std.proofs.lemmas.List.{take_all}
use Rattle.std.specs.Int.Bits.{bit_xor, xor_zero_r}
use Rattle.std.specs.Simd.Lanes.{zip2}
use Rattle.std.proofs.lemmas.Bool.{agree_below_at, eqb-true}
use Rattle.hex.specs.Hex.{lower_digits}
use Rattle.cc_word.specs.Word.{bit_of}
use Rattle.cc_word.specs.WordText.{digits_of}
use Rattle.cc_word.specs.declared.fields.Fields.{Fields}
use Rattle.cc_bounds.specs.Decoding.{exponent_digits, stored_exponent}
use Rattle.cc_io.proofs.DecimalLemmas.{one_digit, two_digits}
use Rattle.cc_decode.specs.declared.rows.TheConstants.{SHORT_DECIMALS}

-- the digit 0 is turned into a separator
turned : (s : ℕ) → s < 256 → bit_xor 48 (bit_xor s 48) ≡ s
turned s fits = eqb-true (bit_xor 48 (bit_xor s 48)) s (agree_below_at (λ k. bit_xor 48 (bit_xor k 48) == k) (λ k. true) 256 s refl fits)

flag_text : (flag : Bool) → decimal (bit_of flag) ≡ slice_index lower_digits (bit_of flag) ∷ []
flag_text true = one_digit 1 (omega arith)
flag_text false = one_digit 0 (omega arith)

pub bit_below : (flag : Bool) → bit_of flag < 2
bit_below true = omega arith
bit_below false = omega arith

-- a digit that is kept, and one that is turned
kept : (n m : ℕ) → n ≡ m → bit_xor (slice_index lower_digits n) 0 ≡ slice_index lower_digits m
kept n m same = xor_zero_r (slice_index lower_digits n) ∙ ap (λ (k : ℕ). slice_index lower_digits k) same

between : (s n : ℕ) → s < 256 → n ≡ 0 → bit_xor (slice_index lower_digits n) (bit_xor s 48) ≡ s
between s n fits none = ap (λ (k : ℕ). bit_xor (slice_index lower_digits k) (bit_xor s 48)) none ∙ turned s fits

pub separated : (s perms otype last number : ℕ) (flag : Bool) → s < 256 → perms < 2 ^ 16 → otype < 2 ^ 18 → last < 256
    → number ≡ perms * 2 ^ 44 + bit_of flag * 2 ^ 36 + otype * 2 ^ 12 + last
    → zip2 bit_xor (digits_of 16 number)
    (bit_xor s 48 ∷ 0 ∷ 0 ∷ 0 ∷ 0 ∷ bit_xor s 48 ∷ 0 ∷ bit_xor s 48 ∷ 0 ∷ 0 ∷ 0 ∷ 0 ∷ 0 ∷ bit_xor s 48 ∷ 0 ∷ 0 ∷ [])
    ≡ s ∷ (digits_of 4 perms ++ s ∷ (decimal (bit_of flag) ++ s ∷ (digits_of 5 otype ++ s ∷ digits_of 2 last)))
unfolding digits_of
separated s perms otype last number flag s_fits perms_fit otype_fits last_fits is =
    let bit : bit_of flag < 2 = bit_below flag in
    rw (flag_text flag)
    (λ i. between s (number / 16 ^ 15 % 16) s_fits (omega (arith, is, bit)) i
    ∷ kept (number / 16 ^ 14 % 16) (perms / 16 ^ 3 % 16) (omega (arith, is, bit)) i
    ∷ kept (number / 16 ^ 13 % 16) (perms / 16 ^ 2 % 16) (omega (arith, is, bit)) i
    ∷ kept (number / 16 ^ 12 % 16) (perms / 16 ^ 1 % 16) (omega (arith, is, bit)) i
    ∷ kept (number / 16 ^ 11 % 16) (perms / 16 ^ 0 % 16) (omega (arith, is, bit)) i
    ∷ between s (number / 16 ^ 10 % 16) s_fits (omega (arith, is, bit)) i
    ∷ kept (number / 16 ^ 9 % 16) (bit_of flag) (omega (arith, is, bit)) i
    ∷ between s (number / 16 ^ 8 % 16) s_fits (omega (arith, is, bit)) i
    ∷ kept (number / 16 ^ 7 % 16) (otype / 16 ^ 4 % 16) (omega (arith, is, bit)) i
    ∷ kept (number / 16 ^ 6 % 16) (otype / 16 ^ 3 % 16) (omega (arith, is, bit)) i
    ∷ kept (number / 16 ^ 5 % 16) (otype / 16 ^ 2 % 16) (omega (arith, is, bit)) i
    ∷ kept (number / 16 ^ 4 % 16) (otype / 16 ^ 1 % 16) (omega (arith, is, bit)) i
    ∷ kept (number / 16 ^ 3 % 16) (otype / 16 ^ 0 % 16) (omega (arith, is, bit)) i
    ∷ between s (number / 16 ^ 2 % 16) s_fits (omega (arith, is, bit)) i
    ∷ kept (number / 16 ^ 1 % 16) (last / 16 ^ 1 % 16) (omega (arith, is, bit)) i
    ∷ kept (number / 16 ^ 0 % 16) (last / 16 ^ 0 % 16) (omega (arith, is, bit)) i
    ∷ [])

-- ---- the decimal digits of an exponent

pub exponent_fits : (fields : Fields) → stored_exponent fields < 53
exponent_fits fields = by fields.ie where
  by : (ie : Bool) → (if ie then min 52 (exponent_digits fields) else 0) < 53
  by true = omega arith
  by false = omega arith

first_listed : (e : ℕ) → e < 53
    → slice_index lower_digits (slice_index SHORT_DECIMALS e / 16 ^ 1 % 16) ≡ (if ltb e 10 then 48 + e % 10 else 48 + e / 10 % 10)
first_listed e fits =
    eqb-true (slice_index lower_digits (slice_index SHORT_DECIMALS e / 16 ^ 1 % 16)) (if ltb e 10 then 48 + e % 10 else 48 + e / 10 % 10)
    (agree_below_at
    (λ k. slice_index lower_digits (slice_index SHORT_DECIMALS k / 16 ^ 1 % 16) == (if ltb k 10 then 48 + k % 10 else 48 + k / 10 % 10))
    (λ k. true) 53 e refl fits)

second_listed : (e : ℕ) → e < 53 → slice_index lower_digits (slice_index SHORT_DECIMALS e / 16 ^ 0 % 16) ≡ (if ltb e 10 then 48 else 48 + e % 10)
second_listed e fits =
    eqb-true (slice_index lower_digits (slice_index SHORT_DECIMALS e / 16 ^ 0 % 16)) (if ltb e 10 then 48 else 48 + e % 10)
    (agree_below_at (λ k. slice_index lower_digits (slice_index SHORT_DECIMALS k / 16 ^ 0 % 16) == (if ltb k 10 then 48 else 48 + k % 10)) (λ k. true) 53 e refl fits)

one_less : (text : List ℕ) (a b : ℕ) → take (length (text ++ a ∷ b ∷ []) - 1) (text ++ a ∷ b ∷ []) ≡ text ++ a ∷ []
one_less text a b =
    let count : length (text ++ a ∷ b ∷ []) - 1 ≡ length text + 1 = omega (arith, length-append text (a ∷ b ∷ [])) in
    ap (λ (n : ℕ). take n (text ++ a ∷ b ∷ [])) count ∙ take-append-add text (a ∷ b ∷ []) 1

-- the entry has the digits of the exponent, and a second one after a single digit
pub shortened : (text : List ℕ) (e : ℕ) → e < 53
    → take (length (text ++ digits_of 2 (slice_index SHORT_DECIMALS e)) - bool_byte (ltb e 10)) (text ++ digits_of 2 (slice_index SHORT_DECIMALS e)) ≡ text ++ decimal e
unfolding digits_of
shortened text e fits = by (ltb e 10) refl where
  first : ℕ
  first = slice_index lower_digits (slice_index SHORT_DECIMALS e / 16 ^ 1 % 16)

  second : ℕ
  second = slice_index lower_digits (slice_index SHORT_DECIMALS e / 16 ^ 0 % 16)

  by : (b : Bool) → ltb e 10 ≡ b → take (length (text ++ first ∷ second ∷ []) - bool_byte b) (text ++ first ∷ second ∷ []) ≡ text ++ decimal e
  by true is =
      let digit : first ≡ 48 + e % 10 = first_listed e fits ∙ ap (λ (b : Bool). if b then 48 + e % 10 else 48 + e / 10 % 10) is in
      one_less text first second ∙ ap (λ (d : ℕ). text ++ d ∷ []) digit ∙ ap (λ (l : List ℕ). text ++ l) (sym (one_digit e (ltb-true e 10 is)))
  by false is =
      let tens : first ≡ 48 + e / 10 % 10 = first_listed e fits ∙ ap (λ (b : Bool). if b then 48 + e % 10 else 48 + e / 10 % 10) is in
      let ones : second ≡ 48 + e % 10 = second_listed e fits ∙ ap (λ (b : Bool). if b then 48 else 48 + e % 10) is in
      let digits : decimal e ≡ (48 + e / 10 % 10) ∷ (48 + e % 10) ∷ [] = two_digits e (ltb-false e 10 is) (omega (arith, fits)) in
      take_all (length (text ++ first ∷ second ∷ []) - 0) (text ++ first ∷ second ∷ []) (omega arith)
      ∙ ap (λ (l : List ℕ). text ++ l) ((λ i. tens i ∷ ones i ∷ []) ∙ sym digits)
