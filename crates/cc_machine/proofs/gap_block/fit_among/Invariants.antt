use Rattle.std.proofs.Common.{◌+◌, ◌-◌, ◌≤◌, length}
use Rattle.cc_machine.specs.Fit.{LackFit}
use Rattle.cc_machine.proofs.gap_block.fit_among.Given as goal

-- no gap so far has a fit
abbrev pub invariant-fours : goal.invariant-fours
invariant-fours l = record {
  within : l.start ≤ length l.gaps;
  none : LackFit l.gaps l.start (l.less + 1) l.align;
}

abbrev pub decreases-fours : goal.decreases-fours
decreases-fours l = length l.gaps - l.start
