-- Digits after those of a number, and the result of reading a number. Of this file, public clauses cite
-- `Spells` alone.
use Rattle.std.specs.Prelude.{◌≡◌, ◌<◌, ◌^◌, ℕ, List, if◌then◌else◌, Option, Some, None}
use Rattle.std.specs.List.{list_all}
use Rattle.std.specs.Char.{is_digit}
use Rattle.std.specs.Str.Parse.{digits_value_after}
use Rattle.cc_values.specs.declared.digits.Spelled.{Spelled}
use Rattle.cc_values.specs.declared.digits.Spelled.TheVariants.{Number, Whole, Over, Nothing}

-- The number of the digits of `number` and then `digits`, or `None` if a byte is not a digit. The
-- list `digits` may be empty.
abbrev pub number_further : (radix number : ℕ) (digits : List ℕ) → Option ℕ
number_further radix number digits =
    if list_all (λ digit. is_digit digit radix) digits then Some (digits_value_after radix number digits) else None

-- `Spells` holds if the result says of the number what it can: its value, its being 2^64 or above
-- that, or that there is no number.
abbrev pub Spells : Spelled → (spelled : Option ℕ) → Type 0
Spells (Number number) spelled = spelled ≡ Some number
Spells Whole spelled = spelled ≡ Some (2 ^ 64)
Spells Over spelled = (number : ℕ) × (spelled ≡ Some number) × (2 ^ 64 < number)
Spells Nothing spelled = spelled ≡ None
