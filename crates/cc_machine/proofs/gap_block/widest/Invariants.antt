use Rattle.std.proofs.Common.{ℕ, ◌<◌, ◌≤◌, ◌-◌, length}
use Rattle.std.specs.List.{slice_index_or}
use Rattle.cc_bounds.specs.declared.span.Span.{Span}
use Rattle.cc_machine.specs.GapRow.{IsAtMost}
use Rattle.cc_machine.proofs.gap_block.widest.Given as goal

-- no gap so far is wider
abbrev pub invariant-fours : goal.invariant-fours
invariant-fours l = record {
  within : l.start ≤ length l.gaps;
  most : (k : ℕ) (d : Span) → k < l.start → IsAtMost l.most (slice_index_or l.gaps k d);
}

abbrev pub decreases-fours : goal.decreases-fours
decreases-fours l = length l.gaps - l.start

-- likewise
abbrev pub invariant-loop-at : goal.invariant-loop-at
invariant-loop-at l = record {
  low : l.start ≤ l.at;
  most : (k : ℕ) (d : Span) → k < l.at → IsAtMost l.most (slice_index_or l.gaps k d);
}
