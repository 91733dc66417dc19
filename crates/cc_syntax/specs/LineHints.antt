-- Possible mistakes in a refused line.
use Rattle.std.specs.Prelude.{ℕ, Bool, ◌==◌, ◌&&◌, ◌||◌, ◌-◌, List, [], ◌∷◌, codes, drop, length, nat_le}
use Rattle.std.specs.List.{ends_with, list_any, starts_with}

-- `ends_in_return` holds if the line has at most 128 bytes, as every command has, and ends in a
-- carriage return.
abbrev pub ends_in_return : (line : List ℕ) → Bool
ends_in_return line = nat_le (length line) 128 && ends_with (λ one other. one == other) line (13 ∷ [])

-- `has_marked_word` holds if the line has at most 128 bytes, begins with `rebuild `, and has a
-- colon, or its last 34 bytes begin with `0x`.
abbrev pub has_marked_word : (line : List ℕ) → Bool
has_marked_word line =
    nat_le (length line) 128 && starts_with (λ one other. one == other) line (codes "rebuild ")
    && (list_any (λ byte. byte == 58) line || starts_with (λ one other. one == other) (drop (length line - 34) line) (codes "0x"))
