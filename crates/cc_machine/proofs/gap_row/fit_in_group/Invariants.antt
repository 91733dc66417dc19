use Rattle.std.proofs.Common.{◌+◌}
use Rattle.cc_machine.specs.GapRow.{HaveNoFit}
use Rattle.cc_machine.proofs.gap_row.fit_in_group.Given as goal

-- no block so far has a fit
abbrev pub invariant-loop-at : goal.invariant-loop-at
invariant-loop-at l = HaveNoFit l.blocks.blocks l.at (l.less + 1) l.align
