-- A drawing of a pool for a page, as an SVG document. It has rows of cells, each of which
-- represents the same number of bytes, and rectangles over the cells of each held object. It has
-- only fixed strings and digits, so no character needs an escape.
use Rattle.std.specs.Prelude.{ℕ, zero, suc, Bool, ◌≡◌, ◌<◌, ◌≤◌, ◌+◌, ◌-◌, ◌*◌, ◌/◌, List, [], ◌∷◌, ◌++◌, codes, if◌then◌else◌, max, min, nat_lt}
use Rattle.std.specs.Int.{div_ceil}
use Rattle.cc_bounds.specs.declared.span.Span.{Span}
use Rattle.cc_bounds.specs.Span.{SharesByte, length_of}
use Rattle.cc_plan.specs.declared.planned_object.ObjectState.{ObjectState}
use Rattle.cc_plan.specs.declared.planned_object.ObjectState.TheVariants.{Live, Freed, Swept}
use Rattle.cc_plan.specs.PlannedObject.{PlannedObject}
use Rattle.cc_plan.specs.Plan.{Plan, is_freed}
use Rattle.cc_io.specs.Numbered.{line_with_decimal, line_with_hexadecimal, with_decimal, with_hexadecimal}
use Rattle.cc_io.specs.Svg.{markup}
use Rattle.cc_draw.specs.Cells.{cell_bytes, cell_count, cell_of}
use Rattle.cc_draw.specs.Usage.{is_swept, pool_span}
use Rattle.cc_plan.specs.PlannerState.{is_live}
use Rattle.cc_draw.specs.declared.layout.Layout.{Layout}

-- ---- the layout

-- The width of a cell: 1,024 divided by the number of cells, rounded down, and at least 1.
abbrev pub cell_width : (cells : ℕ) → ℕ
cell_width cells = max (1024 / max cells 1) 1

-- The layout of a pool, in at most 16,384 cells.
abbrev pub layout_for : Span → Layout
layout_for pool = record {
  start = pool.base;
  size = cell_bytes 16384 (length_of pool);
  cells = cell_count 16384 (length_of pool);
  width = cell_width (cell_count 16384 (length_of pool));
}

-- The number of rows of 1,024 cells.
abbrev pub row_count : Layout → ℕ
row_count layout = div_ceil layout.cells 1024

-- AreCellsOf holds if the cells from `first` to before `end` are exactly those that hold a byte of
-- the span. Cells of this size follow one another from `start`.
pub record AreCellsOf (start size : ℕ) (span : Span) (first end : ℕ) : Type 0 where
  pub hold : (index : ℕ) → first ≤ index → index < end → SharesByte (cell_of start size index) span
  pub from_first : (index : ℕ) → SharesByte (cell_of start size index) span → first ≤ index
  pub below_end : (index : ℕ) → SharesByte (cell_of start size index) span → index < end

-- The number of the cell with the span's first byte, if the span does not begin below `start`.
abbrev pub first_cell : (start size : ℕ) → Span → ℕ
first_cell start size span = (span.base - start) / size

-- The number of the cell after the one with the span's last byte.
abbrev pub end_cell : (start size : ℕ) → Span → ℕ
end_cell start size span = div_ceil (span.top - start) size

-- ---- the rectangles of objects

-- The rectangle over a row's cells from `from` to before `to`. Its title is the object's number and
-- bounds.
abbrev pub rectangle_text : (width row from to number : ℕ) → Span → List ℕ
rectangle_text width row from to number span =
    with_decimal (codes "<rect x='") ((from - 1024 * row) * width) ++ with_decimal (codes "' y='") (32 * row)
    ++ with_decimal (codes "' width='") ((to - from) * width) ++ with_decimal (codes "' height='24'><title>object ") number
    ++ with_hexadecimal (codes ": ") span.base ++ line_with_hexadecimal (codes "-") span.top (codes "</title></rect>")

-- The rectangle of an object's cells in one row, or nothing if it has none there.
abbrev pub part_text : (width row first end number : ℕ) → Span → List ℕ
part_text width row first end number span =
    if nat_lt (max first (1024 * row)) (min end (1024 * row + 1024))
    then rectangle_text width row (max first (1024 * row)) (min end (1024 * row + 1024)) number span
    else []

-- The rectangles of an object's cells in `rows` rows, the first of which is `row`.
abbrev pub parts_text : (width first end number : ℕ) → Span → (rows row : ℕ) → List ℕ
parts_text width first end number span zero row = []
parts_text width first end number span (suc rows) row =
    part_text width row first end number span ++ parts_text width first end number span rows (row + 1)

-- The rectangles of an object over its cells, from `first_cell` to before `end_cell`: one in each
-- row that has such cells.
abbrev pub object_text : Layout → (number : ℕ) → Span → List ℕ
object_text layout number span =
    parts_text layout.width (first_cell layout.start layout.size span) (end_cell layout.start layout.size span) number span (row_count layout) 0

-- `is_in` holds if the two states are equal: an object in the second counts as one in the first, and is
-- drawn in its layer.
abbrev pub is_in : ObjectState → ObjectState → Bool
is_in Live state = is_live state
is_in Freed state = is_freed state
is_in Swept state = is_swept state

-- The rectangles of the objects in this state. The first object of the list has this number.
abbrev pub layer_text : Layout → ObjectState → (number : ℕ) → List PlannedObject → List ℕ
layer_text layout state number [] = []
layer_text layout state number (object ∷ objects) =
    (if is_in state object.state then object_text layout number object.span else []) ++ layer_text layout state (number + 1) objects

-- ---- the parts around them

-- A line with the pool's base and top between `before` and `after`.
abbrev pub bounds_line : (before : List ℕ) (pool : Span) (after : List ℕ) → List ℕ
bounds_line before pool after = with_hexadecimal before pool.base ++ line_with_hexadecimal (codes " to ") pool.top after

-- The key: the samples of a live object, of a quarantined object and of free bytes, and their names.
abbrev pub key_text : List ℕ
key_text =
    markup (codes "<g stroke='#000' stroke-width='.5'>\n<rect x='152' y='44' width='24' height='16' fill='#0072b2'/>\n")
    ++ markup
    (codes "<rect x='272' y='44' width='24' height='16' fill='url(#stripes)'/>\n<rect x='432' y='44' width='24' height='16' fill='#fff'/>\n</g>\n")
    ++ markup (codes "<text y='56'><tspan x='182'>live</tspan><tspan x='302'>quarantined</tspan><tspan x='462'>free</tspan></text>\n")

-- The document's head: its name, what it shows, the pattern of quarantined objects, a key, and the
-- translation after which the pool's first cell is at the point 0, 0. Whatever lies below the pattern
-- is seen between its stripes.
abbrev pub head_text : Layout → (pool : Span) → List ℕ
head_text layout pool =
    line_with_decimal (codes "<svg xmlns='http://www.w3.org/2000/svg' viewBox='0 0 1200 ") (112 + 32 * row_count layout) (codes "' font-family='monospace' font-size='12'>")
    ++ bounds_line (codes "<title>Pool from ") pool (codes "</title>")
    ++ line_with_hexadecimal (codes "<desc>Cells of ") layout.size (codes " bytes: solid live, striped quarantined, blank free.</desc>")
    ++ markup
    (codes "<defs><pattern id='stripes' width='8' height='6' patternUnits='userSpaceOnUse'>\n<rect width='8' height='3' fill='#e69f00'/></pattern></defs>\n")
    ++ bounds_line (codes "<text x='152' y='28' font-size='18'>Pool from ") pool (codes "</text>")
    ++ key_text ++ markup (codes "<g transform='translate(152,96)'>\n")

-- A mark above a cell of the first row, with the number of bytes before it in the row.
abbrev pub mark_text : Layout → (cell : ℕ) → List ℕ
mark_text layout cell =
    with_decimal (codes "<g transform='translate(") (cell * layout.width)
    ++ line_with_hexadecimal (codes ")'><path d='M0,-14V0' stroke='#000'/><text x='3' y='-5'>+") (cell * layout.size) (codes "</text></g>")

-- The number of marks: four, or one for each cell if there are fewer.
abbrev pub mark_count : Layout → ℕ
mark_count layout = min layout.cells 4

-- The first `marks` marks. All the marks together divide the first row into as many parts.
abbrev pub marks_text : Layout → (marks : ℕ) → List ℕ
marks_text layout zero = []
marks_text layout (suc mark) = marks_text layout mark ++ mark_text layout (min layout.cells 1024 * mark / mark_count layout)

-- The ground of a row of `cells` cells: a rectangle under them at the height `y`, next to the
-- address of the first.
abbrev pub ground_text : (width y cells address : ℕ) → List ℕ
ground_text width y cells address =
    with_decimal (codes "<rect y='") y ++ with_decimal (codes "' width='") (cells * width)
    ++ with_decimal (codes "' height='24' fill='#fff' stroke='#000'/><text x='-8' y='") (y + 16)
    ++ line_with_hexadecimal (codes "' text-anchor='end'>") address (codes "</text>")

-- The first `rows` rows. Each has the 1,024 cells after those of the rows above it, or those that
-- are left.
abbrev pub rows_text : Layout → (rows : ℕ) → List ℕ
rows_text layout zero = []
rows_text layout (suc row) =
    rows_text layout row
    ++ ground_text layout.width (32 * row) (min (layout.cells - 1024 * row) 1024) (layout.start + 1024 * row * layout.size)

-- The bytes before the live objects: the head, the marks, the rows, and the start of their layer.
abbrev pub start_text : Layout → (pool : Span) → List ℕ
start_text layout pool =
    head_text layout pool ++ marks_text layout (mark_count layout) ++ rows_text layout (row_count layout)
    ++ markup (codes "<g fill='#0072b2' stroke='#fff' stroke-width='.4'>\n")

-- ---- the document

-- The bytes between the live objects and the quarantined ones.
abbrev pub quarantined_text : List ℕ
quarantined_text = markup (codes "</g>\n<g fill='url(#stripes)' stroke='#e69f00' stroke-width='.4'>\n")

-- The end of the document.
abbrev pub closing_text : List ℕ
closing_text = markup (codes "</g>\n</g>\n</svg>\n")

-- The bytes after the live objects: the quarantined ones, and the end of the document.
abbrev pub after_live_text : Layout → List PlannedObject → List ℕ
after_live_text layout objects = (quarantined_text ++ layer_text layout Freed 1 objects) ++ closing_text

-- The drawing of these objects in this pool, by this layout: the live ones below, and the
-- quarantined ones above them.
abbrev pub laid_out_text : Layout → List PlannedObject → (pool : Span) → List ℕ
laid_out_text layout objects pool = (start_text layout pool ++ layer_text layout Live 1 objects) ++ after_live_text layout objects

-- The drawing of these objects in this pool, by the pool's own layout.
abbrev pub drawing_text : List PlannedObject → (pool : Span) → List ℕ
drawing_text objects pool = laid_out_text (layout_for pool) objects pool

-- IsDrawing holds if `text` is the drawing of a plan's pool.
abbrev pub IsDrawing : Plan → (text : List ℕ) → Type 0
IsDrawing plan text = text ≡ drawing_text plan.objects (pool_span plan)
