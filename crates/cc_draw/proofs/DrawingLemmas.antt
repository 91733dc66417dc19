-- The cells of a drawing that hold a byte of a span, and the rows and rectangles of a drawing.
use Rattle.std.proofs.Common.{◌≡◌, ◌≤◌, ◌<◌, ◌+◌, ◌-◌, ◌*◌, ◌++◌, ℕ, zero, suc, List, [], ◌∷◌, true, false, arith, inl, inr, max, min, refl}
use Rattle.std.proofs.Math.Nat.{div-mul-le_self, lt-div-mul-add, mul-le-mul_right}
use Rattle.std.proofs.lemmas.Bool.{cases_lt, le-ltb, lt-ltb}
use Rattle.cc_bounds.specs.declared.span.Span.{Span}
use Rattle.cc_bounds.specs.Span.{SharesByte}
use Rattle.cc_bounds.proofs.GranuleLemmas.{div_ceil-lt, le-div_ceil}
use Rattle.cc_plan.specs.declared.planned_object.ObjectState.{ObjectState}
use Rattle.cc_plan.specs.PlannedObject.{PlannedObject}
use Rattle.cc_draw.specs.Drawing.{AreCellsOf, end_cell, first_cell, is_in, layer_text, object_text, parts_text, rectangle_text}
use Rattle.cc_draw.specs.Cells.{cell_of}
use Rattle.cc_draw.specs.declared.layout.Layout.{Layout}

-- ---- the cells of a span

-- Each cell from the first up to the end holds a byte of the span: its own first byte, or the
-- span's.
cell-holds : (start size : ℕ) (span : Span) → 0 < size → start ≤ span.base → span.base < span.top → (index : ℕ)
    → first_cell start size span ≤ index → index < end_cell start size span → SharesByte (cell_of start size index) span
cell-holds start size span some low held index from below =
    let above = lt-div-mul-add {a = span.base - start} some in
    let near = div_ceil-lt (span.top - start) size some in
    let first = mul-le-mul_right size from in
    let next : index + 1 ≤ end_cell start size span = omega (arith, below) in
    let last = mul-le-mul_right size next in
    record {
      byte = max span.base (start + index * size);
      in_one = record { from_base = omega arith; below_top = omega (arith, above, first, low, some) };
      in_other = record { from_base = omega arith; below_top = omega (arith, near, last, low, held) };
    }

-- No cell before the first holds a byte of the span.
from-first : (start size : ℕ) (span : Span) → 0 < size → start ≤ span.base → (index : ℕ) → SharesByte (cell_of start size index) span → first_cell start size span ≤ index
from-first start size span some low index shares = elim (cases_lt index (first_cell start size span)) [
  | inl less ↦
      let next : index + 1 ≤ first_cell start size span = omega (arith, less) in
      let up = mul-le-mul_right size next in
      let down = div-mul-le_self (span.base - start) size in
      absurd (omega (arith, up, down, low, shares.in_one.below_top, shares.in_other.from_base))
  | inr most ↦ most
]

-- No cell from the end on holds a byte of the span.
below-end : (start size : ℕ) (span : Span) → 0 < size → (index : ℕ) → SharesByte (cell_of start size index) span → index < end_cell start size span
below-end start size span some index shares = elim (cases_lt index (end_cell start size span)) [
  | inl less ↦ less
  | inr most ↦
      let up = mul-le-mul_right size most in
      let covered = le-div_ceil (span.top - start) size some in
      absurd (omega (arith, up, covered, shares.in_one.from_base, shares.in_other.below_top))
]

pub cells-are : (start size : ℕ) (span : Span) → 0 < size → start ≤ span.base → span.base < span.top
    → AreCellsOf start size span (first_cell start size span) (end_cell start size span)
cells-are start size span some low held = record {
  hold = cell-holds start size span some low held;
  from_first = from-first start size span some low;
  below_end = below-end start size span some;
}

-- ---- the next output of the loops

-- The next object is in the layer, so its rectangles come first.
pub layer_drawn : (layout : Layout) (state : ObjectState) (number : ℕ) (object : PlannedObject) (rest after : List PlannedObject)
    → rest ≡ object ∷ after → is_in state object.state ≡ true
    → layer_text layout state number rest ≡ object_text layout number object.span ++ layer_text layout state (number + 1) after
layer_drawn layout state number object rest after is drawn = rw (is, drawn) refl

-- The next object is not in the layer, so it has no rectangles.
pub layer_left_out : (layout : Layout) (state : ObjectState) (number : ℕ) (object : PlannedObject) (rest after : List PlannedObject)
    → rest ≡ object ∷ after → is_in state object.state ≡ false
    → layer_text layout state number rest ≡ layer_text layout state (number + 1) after
layer_left_out layout state number object rest after is other = rw (is, other) refl

not-less : (a b : ℕ) → (a < b → ⊥) → b ≤ a
not-less a b no_less = elim (cases_lt a b) [
  | inl less ↦ absurd (no_less less)
  | inr most ↦ most
]

-- The object has cells in the next row, so their rectangle comes first.
pub parts_drawn : (width first end number : ℕ) (span : Span) (rows row : ℕ) → 0 < rows
    → max first (1024 * row) < min end (1024 * row + 1024)
    → parts_text width first end number span rows row
    ≡ rectangle_text width row (max first (1024 * row)) (min end (1024 * row + 1024)) number span ++ parts_text width first end number span (rows - 1) (row + 1)
parts_drawn width first end number span zero row some has = absurd (omega (arith, some))
parts_drawn width first end number span (suc rows) row some has =
    let less : suc rows - 1 ≡ rows = omega arith in
    let is = lt-ltb (max first (1024 * row)) (min end (1024 * row + 1024)) has in
    rw (is, less) refl

-- The object has no cell in the next row, so it has no rectangle there.
pub parts_left_out : (width first end number : ℕ) (span : Span) (rows row : ℕ) → 0 < rows
    → (max first (1024 * row) < min end (1024 * row + 1024) → ⊥)
    → parts_text width first end number span rows row ≡ parts_text width first end number span (rows - 1) (row + 1)
parts_left_out width first end number span zero row some has = absurd (omega (arith, some))
parts_left_out width first end number span (suc rows) row some has =
    let less : suc rows - 1 ≡ rows = omega arith in
    let is = le-ltb (max first (1024 * row)) (min end (1024 * row + 1024)) (not-less _ _ has) in
    rw (is, less) refl

-- No row is left, so no bytes are.
pub parts_none : (width first end number : ℕ) (span : Span) (rows row : ℕ) → rows ≡ 0 → parts_text width first end number span rows row ≡ []
parts_none width first end number span zero row none = refl
parts_none width first end number span (suc rows) row none = absurd (omega (arith, none))
