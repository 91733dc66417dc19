-- The table of the objects that were made, by the powers of two of their sizes, and its text in each format.
use Rattle.std.specs.Prelude.{ℕ, ◌+◌, ◌-◌, ◌*◌, ◌^◌, ◌==◌, List, [], ◌∷◌, ◌++◌, codes, if◌then◌else◌}
use Rattle.cc_heap.specs.declared.sizes.SizeTotals.{SizeTotals}
use Rattle.cc_replay.specs.declared.table.Format.{Format}
use Rattle.cc_replay.specs.Rows.{Row, between_rows, row_text, table_end, table_heading}
use Rattle.cc_replay.specs.Summary.{number_row}

-- The names and values of a row: the smallest and the largest size of its power of two, and the numbers of
-- the objects of these sizes.
abbrev pub size_rows : (power : ℕ) → SizeTotals → List Row
size_rows power totals =
    number_row (codes "from") (2 ^ power)
    ∷ number_row (codes "to") (2 * 2 ^ power - 1)
    ∷ number_row (codes "made") totals.made
    ∷ number_row (codes "made.asked") totals.asked
    ∷ number_row (codes "made.padded") totals.padded
    ∷ number_row (codes "inexact") totals.inexact
    ∷ []

-- The rows of the powers of two from 2^`power`, each after the bytes before it. A row without an object is
-- omitted.
abbrev pub more_sizes : Format → (before : List ℕ) → (power : ℕ) → List SizeTotals → List ℕ
more_sizes format before power [] = []
more_sizes format before power (totals ∷ rows) =
    if totals.made == 0 then more_sizes format before (power + 1) rows
    else (before ++ row_text format (size_rows power totals) ++ more_sizes format (between_rows format) (power + 1) rows)

-- The rows of all powers of two, with a separator between two rows.
abbrev pub all_sizes : Format → List SizeTotals → List ℕ
all_sizes format rows = more_sizes format [] 0 rows

-- The names of the columns. They are the same for every row.
abbrev pub any_size : List Row
any_size = size_rows 0 (record { made = 0; inexact = 0; asked = 0; padded = 0 })

-- The table: a line of the names and a line for each row, with spaces or with commas between; or a list of
-- objects of JSON.
abbrev pub sizes_text : Format → List SizeTotals → List ℕ
sizes_text format rows = table_heading format any_size ++ all_sizes format rows ++ table_end format
