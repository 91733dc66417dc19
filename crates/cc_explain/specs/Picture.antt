-- Rows of cells, each of which represents the same number of bytes.
use Rattle.std.specs.Prelude.{ℕ, ◌≡◌, ◌+◌, ◌*◌, ◌<◌, List, length, slice_index}
use Rattle.cc_bounds.specs.declared.span.Span.{Span}
use Rattle.cc_bounds.specs.Span.{SharesByte, span_from}

-- An unmarked cell: a point.
abbrev pub blank : ℕ
blank = 46

-- The bytes of the cell with this index, from 0. Cells of this size follow one another from
-- `start`.
abbrev pub window_cell : (start size index : ℕ) → Span
window_cell start size index = span_from (start + index * size) size

-- IsPictureRow holds if the row has 64 cells, a cell has the mark if it holds a byte of the span,
-- and it is blank if it holds none.
pub record IsPictureRow (start size : ℕ) (span : Span) (mark : ℕ) (row : List ℕ) : Type 0 where
  pub count : length row ≡ 64
  pub marked : (index : ℕ) → index < 64 → SharesByte (window_cell start size index) span → slice_index row index ≡ mark
  pub unmarked : (index : ℕ) → index < 64 → (¬ SharesByte (window_cell start size index) span) → slice_index row index ≡ blank
