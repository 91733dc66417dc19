use Rattle.std.proofs.Common.{◌+◌, arith, subst}
use Rattle.cc_bounds.specs.declared.span.Span.{Span}
use Rattle.cc_machine.specs.Fit.{IsLeastFit}
use Rattle.cc_machine.proofs.GapFitLemmas.{first_at}
use Rattle.cc_machine.proofs.gap_block.fit_from.Goals as goal

pub returns-in-Some-clause-some : goal.returns-in-Some-clause-some
returns-in-Some-clause-some c =
    first_at c.args.gaps.now (c.args.from + c.loop-step.step) c.index-gaps-at.result (c.args.less + 1) c.args.align c.in-Some.start
    c.requires.gaps (omega (arith, c.requires.within, c.loop-step-test.true)) c.loop-step.invariant
    (subst (λ (gap : Span). IsLeastFit gap.base gap.top (c.args.less + 1) c.args.align c.in-Some.start) c.index-gaps-at.is
    c.in-Some.ensures)
