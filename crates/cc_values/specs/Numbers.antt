-- The numbers that strings parse as. They have no limit, since the limits come after.
use Rattle.std.specs.Prelude.{ℕ, ◌&&◌, List, take, drop, codes, nat_lt, nat_le, length, min, if◌then◌else◌, Option, Some, None, Result, Ok, Err}
use Rattle.std.specs.List.{list_all}
use Rattle.std.specs.Char.{is_digit}
use Rattle.std.specs.Str.Parse.{digits_value}
use Rattle.std.specs.Str.{bytes_eq}
use Rattle.cc_word.specs.declared.refusal.Refusal.{Refusal}
use Rattle.cc_word.specs.declared.refusal.Refusal.TheVariants.{Syntax, OutOfRange}

-- The number that one or more digits parse as, the highest first, or `None` if there is no byte, or
-- one is not a digit.
abbrev pub numeral_of : (radix : ℕ) (digits : List ℕ) → Option ℕ
numeral_of radix digits =
    if nat_lt 0 (length digits) && list_all (λ digit. is_digit digit radix) digits
    then Some (digits_value radix digits) else None

-- The number that a string parses as: `0x` and hexadecimal digits of either case, or otherwise
-- decimal digits.
abbrev pub number_of : (text : List ℕ) → Option ℕ
number_of text =
    if bytes_eq (take 2 text) (codes "0x") then numeral_of 16 (drop 2 text) else numeral_of 10 text

-- The number, or the error: `Syntax` if there is none, `OutOfRange` if it is above the limit.
abbrev pub within_limit : (limit : ℕ) → Option ℕ → Result ℕ Refusal
within_limit limit None = Err Syntax
within_limit limit (Some number) = if nat_le number limit then Ok number else Err OutOfRange

-- The number, or the cap if it is above that. No public clause cites it.
abbrev pub capped : (cap : ℕ) → Option ℕ → Option ℕ
capped cap None = None
capped cap (Some number) = Some (min number cap)
