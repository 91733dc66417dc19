use Rattle.std.proofs.Common.{◌%◌, ◌≡◌, ◌<◌, ◌≤◌, ◌^◌, ℕ}
use Rattle.std.specs.List.{slice_index_or}
use Rattle.cc_bounds.specs.declared.span.Span.{Span}
use Rattle.cc_bounds.specs.Span.{span_from}
use Rattle.cc_placer.specs.Placement.{IsApartFrom}
use Rattle.cc_placers.proofs.sorted.gap_from.Given as goal

-- the spans so far end at the start or below, and no place is below it
abbrev pub invariant-loop-span : goal.invariant-loop-span
invariant-loop-span l = record {
  aligned : l.start % l.align ≡ 0;
  above : l.from ≤ l.start;
  low : l.start ≤ 2 ^ 65;
  passed : (k : ℕ) (d : Span) → k < l.span-index → (slice_index_or l.spans k d).top ≤ l.start;
  none_below : (place : ℕ) → l.from ≤ place → place % l.align ≡ 0 → IsApartFrom l.spans (span_from place l.len)
      → l.start ≤ place;
}
