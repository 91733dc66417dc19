-- The digits of words, by way of their bytes.
use Rattle.std.proofs.Common.{◌-◌, ◌<◌, ◌≤◌, inl, inr, ◌≡◌, ℕ, zero, suc, ◌/◌, ◌%◌, ◌^◌, Some, None, refl, sym, arith, ap, ◌∙◌, ◌++◌, List, [], take, drop, length, append-nil}
use Rattle.std.proofs.lemmas.List.{take_all, take-append-le, drop_all, drop_at, length-drop}
use Rattle.std.proofs.Math.Nat.{pow-suc, div-div-eq-div-mul, div-one}
use Rattle.std.specs.Int.{w128, to_be_bytes, byte_at, bytes_high_first}
use Rattle.hex.specs.Hex.{encode_with, lower_digits, hex_digit_value}
use Rattle.std.proofs.lemmas.Bool.{cases_lt, le-ltb, lt-ltb}
use Rattle.std.specs.Char.{digit_value}
use Rattle.cc_word.specs.WordText.{digits_of}

-- twice a number
abbrev pub twice : ℕ → ℕ
twice zero = zero
twice (suc k) = suc (suc (twice k))

pow-twice : (k : ℕ) → 16 ^ twice k ≡ 256 ^ k
pow-twice zero = refl
pow-twice (suc k) =
    let ih = pow-twice k in
    let a = pow-suc 16 (suc (twice k)) in
    let b = pow-suc 16 (twice k) in
    let d = pow-suc 256 k in
    omega (arith, ih, a, b, d)

pub byte_at-is : (k n : ℕ) → byte_at k n ≡ n / 256 ^ k % 256
byte_at-is zero n = rw (div-one n) refl
byte_at-is (suc k) n = refl

-- the two digits of a byte of a number
pub byte-high : (k n : ℕ) → byte_at k n / 16 ≡ n / 16 ^ suc (twice k) % 16
byte-high k n =
    let y : ℕ = n / 16 ^ twice k in
    let e : n / 16 ^ suc (twice k) ≡ y / 16 = rw (pow-suc 16 (twice k)) (sym (div-div-eq-div-mul n (16 ^ twice k) 16)) in
    rw (byte_at-is k n, ← pow-twice k, e) (omega arith)

pub byte-low : (k n : ℕ) → byte_at k n % 16 ≡ n / 16 ^ twice k % 16
byte-low k n = rw (byte_at-is k n, ← pow-twice k) (omega arith)

-- the text of `k` bytes of a number, the highest first, is its last `2 * k` digits
encode-bytes_high_first : (k n : ℕ) → encode_with lower_digits (bytes_high_first k n) ≡ digits_of (twice k) n
unfolding encode_with digits_of
encode-bytes_high_first zero n = refl
encode-bytes_high_first (suc k) n =
    rw (byte-high k n, byte-low k n, encode-bytes_high_first k n) refl

pub word_written : (word : ℕ) → encode_with lower_digits (to_be_bytes w128 word) ≡ digits_of 32 word
word_written word = encode-bytes_high_first 16 word

-- a text of 32 bytes whose first sixteen are written, and then the others, is what was written
pub put_halves : (text first second : List ℕ) → length text ≡ 32 → length first ≡ 16 → length second ≡ 16
    → take 16 (first ++ drop 16 text) ++ (second ++ drop 16 (drop 16 (first ++ drop 16 text))) ≡ first ++ second
put_halves text first second whole one other =
    let rest : List ℕ = drop 16 text in
    let left : length rest ≤ 16 = omega (arith, length-drop 16 text, whole) in
    let kept : take 16 (first ++ rest) ≡ first = take-append-le 16 first rest (omega (arith, one)) ∙ take_all 16 first (omega (arith, one)) in
    let none : drop 16 (drop 16 (first ++ rest)) ≡ [] = ap (λ (l : List ℕ). drop 16 l) (drop_at first rest 16 one) ∙ drop_all 16 rest left in
    rw (kept, none) (ap (λ (l : List ℕ). first ++ l) (append-nil second))

-- ---- reading

-- a digit has the value of hex
pub digit_value-hex : (digit value : ℕ) → hex_digit_value digit ≡ Some value → digit_value digit ≡ value
digit_value-hex digit value h = elim (cases_lt digit 58) [
  | inl below_58 ↦ decimal below_58 h
  | inr from_58 ↦ elim (cases_lt digit 65) [
    | inl below_65 ↦ none_before_upper from_58 below_65 h
    | inr from_65 ↦ elim (cases_lt digit 71) [
      | inl below_71 ↦ upper from_65 below_71 h
      | inr from_71 ↦ elim (cases_lt digit 97) [
        | inl below_97 ↦ none_before_lower from_71 below_97 h
        | inr from_97 ↦ elim (cases_lt digit 103) [
          | inl below_103 ↦ lower from_97 below_103 h
          | inr from_103 ↦ none_after from_103 h
        ]
      ]
    ]
  ]
]
  where
    decimal : digit < 58 → hex_digit_value digit ≡ Some value → digit_value digit ≡ value
    decimal below h = grind arith

    none_before_upper : 58 ≤ digit → digit < 65 → hex_digit_value digit ≡ Some value → digit_value digit ≡ value
    none_before_upper from below h = grind arith

    upper_std : 65 ≤ digit → digit < 71 → digit_value digit ≡ digit - 55
    upper_std from below = grind arith

    upper_hex : 65 ≤ digit → digit < 71 → hex_digit_value digit ≡ Some (digit - 55)
    upper_hex from below = grind arith

    upper : 65 ≤ digit → digit < 71 → hex_digit_value digit ≡ Some value → digit_value digit ≡ value
    upper from below h = cc (upper_std from below, upper_hex from below, h)

    none_before_lower : 71 ≤ digit → digit < 97 → hex_digit_value digit ≡ Some value → digit_value digit ≡ value
    none_before_lower from below h = grind arith

    lower_std : 97 ≤ digit → digit < 103 → digit_value digit ≡ digit - 87
    lower_std from below =
        rw (
          le-ltb digit 48 (omega arith),
          le-ltb digit 58 (omega arith),
          le-ltb digit 65 (omega arith),
          le-ltb digit 91 (omega arith),
          le-ltb digit 97 from,
          lt-ltb digit 123 (omega arith),
        ) refl

    lower_hex : 97 ≤ digit → digit < 103 → hex_digit_value digit ≡ Some (digit - 87)
    lower_hex from below = grind arith

    lower : 97 ≤ digit → digit < 103 → hex_digit_value digit ≡ Some value → digit_value digit ≡ value
    lower from below h = cc (lower_std from below, lower_hex from below, h)

    none : 103 ≤ digit → hex_digit_value digit ≡ None
    none from = grind arith

    none_after : 103 ≤ digit → hex_digit_value digit ≡ Some value → digit_value digit ≡ value
    none_after from h = cc (none from, h)
