use Rattle.std.proofs.Common.{◌<◌, ◌≤◌, ◌+◌, length}
use Rattle.std.specs.List.{slice_index_or}
use Rattle.cc_bounds.specs.declared.span.Span.{Span}
use Rattle.cc_machine.proofs.gap_block.GapBlock.position.Given as goal

-- the gap at the low position begins below the address, if it is not the first, and the one `size` positions above it does not
abbrev pub invariant-loop-size : goal.invariant-loop-size
invariant-loop-size l = record {
  some : 1 ≤ l.size;
  within : l.low + l.size ≤ length l.self;
  below : (d : Span) → 0 < l.low → (slice_index_or l.self l.low d).base < l.address;
  above : (d : Span) → l.low + l.size < length l.self → l.address ≤ (slice_index_or l.self (l.low + l.size) d).base;
}

abbrev pub decreases-loop-size : goal.decreases-loop-size
decreases-loop-size l = l.size
