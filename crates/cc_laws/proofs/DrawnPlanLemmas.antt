-- The laws of every plan: holes are free bytes, and objects are drawn over exactly their cells.
use Rattle.std.proofs.Common.{ℕ, ◌-◌, ◌<◌, ◌≤◌, arith, inl, inr}
use Rattle.std.specs.Prelude.{All, get_or}
use Rattle.std.proofs.Math.Nat.{div-mul-le_self, mul-le-mul_right}
use Rattle.std.proofs.lemmas.Bool.{cases_lt}
use Rattle.cc_bounds.specs.declared.span.Span.{Span}
use Rattle.cc_bounds.specs.Span.{IsWithin, length_of}
use Rattle.cc_bounds.proofs.GranuleLemmas.{div_ceil-le, le-div_ceil}
use Rattle.cc_draw.specs.Cells.{cell_bytes, cell_count}
use Rattle.cc_plan.specs.Plan.{Plan, plan_spans}
use Rattle.cc_values.specs.declared.usage.Usage.{Usage}
use Rattle.cc_draw.specs.Usage.{IsUsage, pool_span}
use Rattle.cc_draw.specs.Drawing.{end_cell, first_cell, layout_for}
use Rattle.cc_laws.specs.DrawnObjects.{ArePlaced, CountsFreeBytes, IsDrawnExactly}
use Rattle.cc_draw.proofs.DrawingLemmas.{cells-are}
use Rattle.cc_laws.proofs.HoleLemmas.{counts_free}

pub free_counted : (slots : ℕ) (plan : Plan) (usage : Usage) → ArePlaced (pool_span plan) plan.objects → IsUsage slots plan usage
    → CountsFreeBytes (pool_span plan) (plan_spans plan.objects) usage
free_counted slots plan usage placed is =
    counts_free (pool_span plan) plan.objects placed usage is.uses.holes is.uses.held is.uses.pool

-- a span with bytes has a cell
some-cell : (start size : ℕ) (span : Span) → 0 < size → start ≤ span.base → span.base < span.top
    → first_cell start size span < end_cell start size span
some-cell start size span some low held = elim (cases_lt (first_cell start size span) (end_cell start size span)) [
  | inl less ↦ less
  | inr most ↦
      let down = div-mul-le_self (span.base - start) size in
      let covered = le-div_ceil (span.top - start) size some in
      let up = mul-le-mul_right size most in
      absurd (omega (arith, down, covered, up, low, held))
]

-- a span in the pool is drawn over exactly its cells
drawn : (pool span : Span) → IsWithin span pool → span.base < span.top → IsDrawnExactly (layout_for pool) span
drawn pool span within held =
    let size : ℕ = cell_bytes 16384 (length_of pool) in
    let some : 0 < size = omega arith in
    let covered = le-div_ceil (length_of pool) size some in
    record {
      exactly = cells-are pool.base size span some within.from_base held;
      some = some-cell pool.base size span some within.from_base held;
      in_layout =
          div_ceil-le (span.top - pool.base) size (cell_count 16384 (length_of pool)) some (omega (arith, covered, within.to_top));
    }

pub drawn_exactly : (plan : Plan) → ArePlaced (pool_span plan) plan.objects
    → All (λ object. IsDrawnExactly (layout_for (pool_span plan)) object.span) plan.objects
drawn_exactly plan placed k d inside =
    drawn (pool_span plan) (get_or plan.objects k d).span (placed.within k d inside) (placed.some k d inside)
