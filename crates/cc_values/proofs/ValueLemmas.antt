-- Values of commands that are not numbers.
use Rattle.std.proofs.Common.{◌≡◌, ℕ, Bool, true, false, ◌&&◌, ◌==◌, List, length, Ok, Err, refl, ap, if◌then◌else◌}
use Rattle.std.proofs.lemmas.Bool.{eqb-true, eq-eqb}
use Rattle.std.proofs.lemmas.List.Sums.{AllPass-from_list_all, list_all-from_AllPass}
use Rattle.std.specs.List.{list_all, AllPass}
use Rattle.hex.specs.Hex.{is_hex_digit}
use Rattle.std.specs.Str.Parse.{digits_value}
use Rattle.cc_word.specs.declared.refusal.Refusal.TheVariants.{Syntax}
use Rattle.cc_values.specs.Values.{word_in}

-- 32 hexadecimal digits are read as their word.
pub word_found : (text : List ℕ) (word : ℕ) → (length text ≡ 32) × AllPass is_hex_digit text → word ≡ digits_value 16 text → Ok word ≡ word_in text
word_found text word is value =
    rw (eq-eqb (length text) 32 is.0, list_all-from_AllPass is_hex_digit text is.1) (ap Ok value)

-- Any other string is not a word.
pub word_missed : (text : List ℕ) → ¬ ((length text ≡ 32) × AllPass is_hex_digit text) → Err Syntax ≡ word_in text
word_missed text is_not = by (length text == 32) (list_all is_hex_digit text) refl refl where
  by : (sized digits : Bool) → (length text == 32) ≡ sized → list_all is_hex_digit text ≡ digits
      → Err Syntax ≡ (if sized && digits then Ok (digits_value 16 text) else Err Syntax)
  by true true s d = absurd (is_not (eqb-true (length text) 32 s, AllPass-from_list_all is_hex_digit text d))
  by true false s d = refl
  by false digits s d = refl
