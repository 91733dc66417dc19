-- Cells of bytes, each of which has the same number of bytes.
use Rattle.std.specs.Prelude.{ℕ, ◌+◌, ◌*◌, max}
use Rattle.std.specs.Int.{div_ceil}
use Rattle.cc_bounds.specs.declared.span.Span.{Span}
use Rattle.cc_bounds.specs.Span.{span_from}

-- The bytes of the cell with this index, from 0. Cells of this size follow one another from
-- `start`.
abbrev pub cell_of : (start size index : ℕ) → Span
cell_of start size index = span_from (start + index * size) size

-- The number of bytes of a cell: the smallest number, at least 1, with which `most` cells cover
-- `bytes` bytes.
abbrev pub cell_bytes : (most bytes : ℕ) → ℕ
cell_bytes most bytes = max (div_ceil bytes most) 1

-- The number of such cells that cover the bytes. The last may reach past their end.
abbrev pub cell_count : (most bytes : ℕ) → ℕ
cell_count most bytes = div_ceil bytes (cell_bytes most bytes)
