use Rattle.std.proofs.Common.{◌-◌, ◌%◌, ◌≡◌, ◌≤◌, ℕ}
use Rattle.cc_placer.specs.Placement.{IsPlace}
use Rattle.cc_placers.proofs.scan.room_beside.Given as goal

-- the start is a multiple from the pool's base up, and no place is below it
abbrev pub invariant-loop-start : goal.invariant-loop-start
invariant-loop-start l = record {
  aligned : l.start % l.align ≡ 0;
  from_base : l.pool.base ≤ l.start;
  none_below : (place : ℕ) → IsPlace l.pool l.held l.len l.align place → l.start ≤ place;
}

abbrev pub decreases-loop-start : goal.decreases-loop-start
decreases-loop-start l = l.pool.top - l.start
