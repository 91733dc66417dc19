use Rattle.std.proofs.Common.{◌<◌, ◌≤◌, ◌+◌, ◌-◌, length}
use Rattle.std.specs.List.{slice_index_or}
use Rattle.cc_machine.specs.declared.gap_heads.Head.{Head}
use Rattle.cc_machine.proofs.gap_heads.Heads.position.Given as goal

-- the head below the low position ends below the address, and the one `size` positions above it does not
abbrev pub invariant-loop-size : goal.invariant-loop-size
invariant-loop-size l = record {
  some : 1 ≤ l.size;
  within : l.low + l.size ≤ length l.self.heads;
  below : (d : Head) → 0 < l.low → (slice_index_or l.self.heads (l.low - 1) d).last < l.address;
  above : (d : Head) → l.low + l.size < length l.self.heads → l.address ≤ (slice_index_or l.self.heads (l.low + l.size) d).last;
}

abbrev pub decreases-loop-size : goal.decreases-loop-size
decreases-loop-size l = l.size
