use Rattle.std.proofs.Common.{◌<◌, ℕ}
use Rattle.std.specs.List.{slice_index_or}
use Rattle.cc_bounds.specs.declared.span.Span.{Span}
use Rattle.cc_bounds.specs.Span.{SharesByte}
use Rattle.cc_placers.proofs.scan.obstacle.Given as goal

-- none of the spans so far shares a byte with the wanted one
abbrev pub invariant-loop-span : goal.invariant-loop-span
invariant-loop-span l = (k : ℕ) (d : Span) → k < l.span-index → ¬ SharesByte l.wanted (slice_index_or l.spans k d)
