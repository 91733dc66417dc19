-- Digits that may be meant as hexadecimal ones, without `0x`.
use Rattle.std.specs.Prelude.{ℕ, Bool, not, ◌==◌, ◌&&◌, ◌||◌, List, Option, None, Some, is_ok, codes, length, nat_le}
use Rattle.std.specs.List.{starts_with}
use Rattle.cc_values.specs.Values.{length_in}
use Rattle.cli_words.specs.ListLine.{line_parts}

-- Whether the text is decimal digits that may be meant as hexadecimal ones, as `nm -S` prints sizes:
-- 8 or 16 of them, the first of which is 0.
abbrev pub is_bare : (text : List ℕ) → Bool
is_bare text =
    (length text == 8 || length text == 16) && starts_with (λ one other. one == other) text (codes "0")
    && not (starts_with (λ one other. one == other) text (codes "0x")) && is_ok (length_in text)

-- Whether the length or the base of a line is such digits.
abbrev pub is_bare_part : List ℕ × Option (List ℕ) → Bool
is_bare_part (size, None) = is_bare size
is_bare_part (size, Some base) = is_bare size || is_bare base

-- Whether a line of a list, of at most 128 bytes, has such digits.
abbrev pub is_bare_line : (line : List ℕ) → Bool
is_bare_line line = nat_le (length line) 128 && is_bare_part (line_parts line)
