use Rattle.std.proofs.Common.{◌+◌, ◌*◌}
use Rattle.cc_machine.specs.GapRow.{HaveNoFit}
use Rattle.cc_machine.proofs.gap_row.fit_in.Given as goal

-- no block of the groups so far has a fit
abbrev pub invariant-loop-group : goal.invariant-loop-group
invariant-loop-group l = HaveNoFit l.blocks.blocks (16 * l.group) (l.less + 1) l.align
