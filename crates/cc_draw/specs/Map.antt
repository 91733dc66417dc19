-- A map of a pool: rows of cells, each of which represents the same number of bytes and shows what
-- holds them.
use Rattle.std.specs.Prelude.{ℕ, zero, suc, ◌≡◌, ◌<◌, ◌+◌, ◌-◌, ◌*◌, List, [], ◌++◌, Contains, codes, min, slice_index, take}
use Rattle.std.specs.Int.{div_ceil}
use Rattle.cc_word.specs.WordText.{hexadecimal}
use Rattle.cc_bounds.specs.declared.span.Span.{Span}
use Rattle.cc_bounds.specs.Span.{SharesByte, length_of}
use Rattle.cc_plan.specs.declared.planned_object.ObjectState.{ObjectState}
use Rattle.cc_plan.specs.declared.planned_object.ObjectState.TheVariants.{Live, Freed}
use Rattle.cc_plan.specs.PlannedObject.{PlannedObject}
use Rattle.cc_plan.specs.Plan.{Plan}
use Rattle.cc_io.specs.Text.{with_line_feed}
use Rattle.cc_io.specs.Numbered.{line_with_hexadecimal}
use Rattle.cc_draw.specs.Cells.{cell_bytes, cell_count, cell_of}
use Rattle.cc_draw.specs.Usage.{pool_span}

-- HoldsByte holds if a byte of the span belongs to an object in this state.
pub record HoldsByte (objects : List PlannedObject) (state : ObjectState) (span : Span) : Type 0 where
  pub object : PlannedObject
  pub is_object : Contains objects object
  pub in_state : object.state ≡ state
  pub shares : SharesByte object.span span

-- TellsCell holds if the cell has the mark for its bytes:
--
-- - `#` if some are live and none is quarantined
-- - `~` if some are quarantined and none is live
-- - `*` if some are live and some are quarantined
-- - `.` if no object holds one
pub record TellsCell (objects : List PlannedObject) (cell : Span) (mark : ℕ) : Type 0 where
  pub live : HoldsByte objects Live cell → (¬ HoldsByte objects Freed cell) → mark ≡ 35
  pub quarantined : (¬ HoldsByte objects Live cell) → HoldsByte objects Freed cell → mark ≡ 126
  pub mixed : HoldsByte objects Live cell → HoldsByte objects Freed cell → mark ≡ 42
  pub free : (¬ HoldsByte objects Live cell) → (¬ HoldsByte objects Freed cell) → mark ≡ 46

-- IsMapRow holds if the row has the marks of 64 cells of this size, which follow one another from
-- `start`.
pub record IsMapRow (objects : List PlannedObject) (start size : ℕ) (row : List ℕ) : Type 0 where
  pub tells : (index : ℕ) → index < 64 → TellsCell objects (cell_of start size index) (slice_index row index)

-- A row: the address of its first cell, and its cells.
abbrev pub map_row_text : (start : ℕ) (cells : List ℕ) → List ℕ
map_row_text start cells = with_line_feed (hexadecimal start ++ codes " " ++ cells)

-- AreMapRows holds if `text` is `rows` rows of cells of this size, which follow one another from
-- `start`. A row has 64 cells, and the last one those that are left.
abbrev pub AreMapRows : (objects : List PlannedObject) (size rows start cells : ℕ) (text : List ℕ) → Type 0
AreMapRows objects size zero start cells text = text ≡ []
AreMapRows objects size (suc rows) start cells text =
    (row : List ℕ) × (rest : List ℕ) × IsMapRow objects start size row × AreMapRows objects size rows (start + 64 * size) (cells - 64) rest
    × (text ≡ map_row_text start (take (min cells 64) row) ++ rest)

-- The first line: the size of a cell, and the meaning of the marks.
abbrev pub legend_text : (size : ℕ) → List ℕ
legend_text size = line_with_hexadecimal (codes "cells of ") size (codes " bytes: # live, ~ quarantined, * both, . free")

-- IsMapOf holds if `text` is the map of these objects in this pool, in at most 1,024 cells. The map
-- is the legend, and the number of rows that the cells fill.
pub record IsMapOf (objects : List PlannedObject) (pool : Span) (text : List ℕ) : Type 0 where
  pub rows : List ℕ
  pub are_rows :
      AreMapRows objects (cell_bytes 1024 (length_of pool)) (div_ceil (cell_count 1024 (length_of pool)) 64) pool.base (cell_count 1024 (length_of pool)) rows
  pub lines : text ≡ legend_text (cell_bytes 1024 (length_of pool)) ++ rows

-- IsMap holds if `text` is the map of a plan's pool. Without a pool it has no row.
abbrev pub IsMap : Plan → (text : List ℕ) → Type 0
IsMap plan text = IsMapOf plan.objects (pool_span plan) text
