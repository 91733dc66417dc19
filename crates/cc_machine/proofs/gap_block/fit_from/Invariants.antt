use Rattle.std.proofs.Common.{◌+◌}
use Rattle.cc_machine.specs.Fit.{LackFit}
use Rattle.cc_machine.proofs.gap_block.fit_from.Given as goal

-- no gap so far has a fit
abbrev pub invariant-loop-step : goal.invariant-loop-step
invariant-loop-step l = LackFit l.gaps (l.from + l.step) (l.less + 1) l.align
