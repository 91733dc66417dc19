-- The text of a word, and of a number in hexadecimal.
use Rattle.std.specs.Prelude.{ℕ, zero, suc, ◌≡◌, ◌/◌, ◌%◌, ◌^◌, List, [], ◌∷◌, ◌++◌, codes, false, length, slice_index}
use Rattle.std.specs.Fmt.{digits}
use Rattle.std.specs.List.{AllPass}
use Rattle.hex.specs.Hex.{is_hex_digit, lower_digits}

-- `IsWordText` holds if `text` is 32 hexadecimal digits, of either case.
abbrev pub IsWordText : List ℕ → Type 0
IsWordText text = (length text ≡ 32) × AllPass is_hex_digit text

-- The last `count` hexadecimal digits of `number`, in lower case, the highest first.
unfoldable pub digits_of : (count number : ℕ) → List ℕ
digits_of zero number = []
digits_of (suc count) number = slice_index lower_digits (number / 16 ^ count % 16) ∷ digits_of count number

-- `0x` and the hexadecimal digits of `number`, in lower case and without leading zeros.
abbrev pub hexadecimal : ℕ → List ℕ
hexadecimal number = codes "0x" ++ digits 16 false number
