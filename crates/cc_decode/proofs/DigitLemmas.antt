-- Hexadecimal digits in two parts.
use Rattle.std.proofs.Common.{◌≡◌, ◌∙◌, ℕ, ◌/◌, ◌%◌, ◌^◌, ◌++◌, ap, List, arith}
use Rattle.cc_word.specs.WordText.{digits_of}
use Rattle.cc_word.proofs.DigitLemmas.{digits_of-join, in-halves}

-- the 17 digits of a number, from its parts above and below 2^64
pub seventeen_digits : (number : ℕ) → digits_of 17 number ≡ digits_of 1 (number / 2 ^ 64) ++ digits_of 16 (number % 2 ^ 64)
seventeen_digits number =
    digits_of-join 1 16 17 number (omega arith) ∙ ap (λ (l : List ℕ). digits_of 1 (number / 2 ^ 64) ++ l) (in-halves number)
