-- Chunks of output with a number in them. The prover does not unfold them by itself, so that a
-- proof on many of them does not examine each byte.
use Rattle.std.specs.Prelude.{ℕ, List, [], ◌∷◌, ◌++◌, decimal}
use Rattle.cc_word.specs.WordText.{digits_of, hexadecimal}
use Rattle.cc_io.specs.Text.{with_line_feed}

-- The end of a line.
abbrev pub line_feed : List ℕ
line_feed = 10 ∷ []

-- The bytes `before`, and then the last `count` hexadecimal digits of `number`.
unfoldable pub with_digits : (before : List ℕ) (count number : ℕ) → List ℕ
with_digits before count number = before ++ digits_of count number

-- The bytes `before`, and then `number` in decimal.
unfoldable pub with_decimal : (before : List ℕ) (number : ℕ) → List ℕ
with_decimal before number = before ++ decimal number

-- The bytes `before`, and then `number` in hexadecimal, with `0x` and without leading zeros.
unfoldable pub with_hexadecimal : (before : List ℕ) (number : ℕ) → List ℕ
with_hexadecimal before number = before ++ hexadecimal number

-- The bytes `before`, `number` in decimal, the bytes `after` and the line feed.
unfoldable pub line_with_decimal : (before : List ℕ) (number : ℕ) (after : List ℕ) → List ℕ
line_with_decimal before number after = with_line_feed (before ++ decimal number ++ after)

-- The bytes `before`, `number` in hexadecimal, with `0x` and without leading zeros, the bytes
-- `after` and the line feed.
unfoldable pub line_with_hexadecimal : (before : List ℕ) (number : ℕ) (after : List ℕ) → List ℕ
line_with_hexadecimal before number after = with_line_feed (before ++ hexadecimal number ++ after)
