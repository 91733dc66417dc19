-- The notices at a terminal while a command reads: the progress of a replay, and that a script is awaited.
use Rattle.std.specs.Prelude.{ℕ, ◌*◌, ◌/◌, ◌++◌, nat_lt, codes, decimal, List, Option, Some, None, if◌then◌else◌}

-- The percentage of a file that has been read, rounded down, or none once all of it has been.
abbrev pub percent_of : (done length : ℕ) → Option ℕ
percent_of done length = if nat_lt done length then Some (done * 100 / length) else None

-- The text of a percentage. The cursor is at the start of the line after it.
abbrev pub progress_text : (percent : ℕ) → List ℕ
progress_text percent = codes "replay: " ++ decimal percent ++ codes " %\r"

-- The text that clears a percentage.
abbrev pub clearing_text : List ℕ
clearing_text = codes "            \r"

-- The text written before a script is read from a terminal.
abbrev pub waiting_text : List ℕ
waiting_text = codes "hint: reading a script from the terminal, a command on each line; Control-D ends it\n"
