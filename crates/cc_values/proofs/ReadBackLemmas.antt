-- The text of numbers and of words parses as these numbers and words.
use Rattle.std.proofs.Common.{◌≡◌, ℕ, zero, suc, Bool, true, false, ◌/◌, ◌%◌, ◌^◌, ◌<◌, ◌≤◌, ◌&&◌, List, [], ◌∷◌, length, Some, Ok, refl, sym, ◌∙◌, ap, arith, inl, inr}
use Rattle.std.specs.Prelude.{decimal}
use Rattle.std.specs.List.{list_all}
use Rattle.std.specs.Char.{is_digit}
use Rattle.std.specs.Fmt.{digits, digits_onto, digit_glyph}
use Rattle.std.specs.Str.Parse.{digits_value}
use Rattle.std.proofs.Math.Nat.{mod-lt}
use Rattle.std.proofs.lemmas.Bool.{agree_below_at, cases_eq, eq-eqb, ne_eqb, lt-ltb}
use Rattle.cc_word.specs.WordText.{digits_of, hexadecimal}
use Rattle.cc_word.proofs.ReadBackLemmas.{digits-value, word_text, word_value}
use Rattle.cc_values.specs.Numbers.{number_of, numeral_of}
use Rattle.cc_values.specs.Values.{word_in}
use Rattle.cc_values.proofs.SpaceLemmas.{spelled}
use Rattle.cc_values.proofs.ValueLemmas.{word_found}

module _ (radix : ℕ) (some : 0 < radix) (each : (d : ℕ) → d < radix → is_digit (digit_glyph false d) radix ≡ true) where
  -- every byte that is written is a digit
  onto-all : (k number : ℕ) (done : List ℕ) → list_all (λ digit. is_digit digit radix) done ≡ true
      → list_all (λ digit. is_digit digit radix) (digits_onto k radix false number done) ≡ true
  onto-all zero number done all = all
  onto-all (suc k) number done all =
      let first = each (number % radix) (mod-lt number some) in
      let more : list_all (λ digit. is_digit digit radix) (digit_glyph false (number % radix) ∷ done) ≡ true =
      ap (λ (b : Bool). b && list_all (λ digit. is_digit digit radix) done) first ∙ all in
      elim (cases_eq (number / radix) 0) [
        | inl none ↦ rw (eq-eqb (number / radix) 0 none) more
        | inr rest ↦ rw (ne_eqb (number / radix) 0 rest) (onto-all k (number / radix) (digit_glyph false (number % radix) ∷ done) more)
      ]

  -- no byte is lost
  onto-length : (k number : ℕ) (done : List ℕ) → length done ≤ length (digits_onto k radix false number done)
  onto-length zero number done = omega arith
  onto-length (suc k) number done =
      elim (cases_eq (number / radix) 0) [
        | inl none ↦ rw (eq-eqb (number / radix) 0 none) (omega arith)
        | inr rest ↦
            let more = onto-length k (number / radix) (digit_glyph false (number % radix) ∷ done) in
            rw (ne_eqb (number / radix) 0 rest) (omega (arith, more))
      ]

  onto-some : (k number : ℕ) → 0 < length (digits_onto (suc k) radix false number [])
  onto-some k number =
      elim (cases_eq (number / radix) 0) [
        | inl none ↦ rw (eq-eqb (number / radix) 0 none) (omega arith)
        | inr rest ↦
            let more = onto-length k (number / radix) (digit_glyph false (number % radix) ∷ []) in
            rw (ne_eqb (number / radix) 0 rest) (omega (arith, more))
      ]

-- the digits of a number, as they are written
record IsWritten (radix number : ℕ) : Type 0 where
  some : 0 < length (digits radix false number)
  all : list_all (λ digit. is_digit digit radix) (digits radix false number) ≡ true

written : (radix number : ℕ) → 0 < radix → ((d : ℕ) → d < radix → is_digit (digit_glyph false d) radix ≡ true) → IsWritten radix number
unfolding digits
written radix number some each = record { some = onto-some radix some each 63 number; all = onto-all radix some each 64 number [] refl }

decimal-each : (d : ℕ) → d < 10 → is_digit (digit_glyph false d) 10 ≡ true
decimal-each d fits = agree_below_at (λ b. is_digit (digit_glyph false b) 10) (λ b. true) 10 d refl fits

hexadecimal-each : (d : ℕ) → d < 16 → is_digit (digit_glyph false d) 16 ≡ true
hexadecimal-each d fits = agree_below_at (λ b. is_digit (digit_glyph false b) 16) (λ b. true) 16 d refl fits

numeral-is : (radix : ℕ) (word : List ℕ) → 0 < length word → list_all (λ digit. is_digit digit radix) word ≡ true
    → numeral_of radix word ≡ Some (digits_value radix word)
numeral-is radix word some is = rw (lt-ltb 0 (length word) some, is) refl

-- ---- numbers and words

pub decimal-read : (number : ℕ) → number < 10 ^ 64 → number_of (decimal number) ≡ Some number
decimal-read number fits =
    let is = written 10 number (omega arith) decimal-each in
    spelled (digits 10 false number) is.some is.all ∙ ap Some (digits-value 10 number (omega arith) (omega arith) fits)

pub hexadecimal-read : (number : ℕ) → number < 16 ^ 64 → number_of (hexadecimal number) ≡ Some number
hexadecimal-read number fits =
    let is = written 16 number (omega arith) hexadecimal-each in
    numeral-is 16 (digits 16 false number) is.some is.all ∙ ap Some (digits-value 16 number (omega arith) (omega arith) fits)

pub word-read : (word : ℕ) → word < 2 ^ 128 → word_in (digits_of 32 word) ≡ Ok word
word-read word fits = sym (word_found (digits_of 32 word) word (word_text word) (sym (word_value word fits)))
