use Rattle.std.proofs.Common.{rules, ◌+◌, ◌^◌, ◌<◌, ◌≡◌}
use Rattle.cc_machine.proofs.GapRowLemmas.{too_long}
use Rattle.cc_machine.proofs.gap_row.GapRow.first_fit.Goals as goal

pub returns-in_default : goal.returns-in_default
returns-in_default c =
    let long : 2 ^ 64 < c.args.len = search rules in
    rw (← c.self.view_is) (too_long _ c.args.len c.args.align c.self.invariant.are_gaps long)

pub returns : goal.returns
returns c =
    let same : c.in-Ok.less + 1 ≡ c.args.len = search rules in
    rw (← c.self.view_is, ← same) c.fit_in.ensures
