-- The parts of a line of a list of lengths: the length, and the base if the line has one.
use Rattle.std.specs.Prelude.{ℕ, ◌==◌, ◌+◌, List, Option, Some, None, drop, take}
use Rattle.std.specs.List.{position}

-- The parts before and after the byte at this position; without one, the whole line is a length.
abbrev pub parts_at : (space : Option ℕ) (line : List ℕ) → List ℕ × Option (List ℕ)
parts_at None line = (line, None)
parts_at (Some at) line = (take at line, Some (drop (at + 1) line))

-- The parts before and after the first space.
abbrev pub line_parts : (line : List ℕ) → List ℕ × Option (List ℕ)
line_parts line = parts_at (position (λ byte. byte == 32) line) line
