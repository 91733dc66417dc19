use Rattle.std.proofs.Common.{ap, option_map}
use Rattle.cc_plan.proofs.PlannerLemmas.{not_placed, placed}
use Rattle.cc_plan.proofs.planner.place.Goals as goal

pub returns : goal.returns
returns g c spans holds =
    placed c.args.align c.args.n _ _ c.in_ok-start.start _ _ spans (option_map (λ found. found.0) c.find.result) c.unit-unit.ensures.value c.round_up-len.ensures.value
    (ap (option_map (λ found. found.0)) (c.in_ok-start.was)) c.from.ensures (c.find.ensures spans holds)

pub returns-in_err-start : goal.returns-in_err-start
returns-in_err-start g c spans holds =
    rw c.from_residual.ensures (not_placed c.args.align c.args.n _ _ _ spans (option_map (λ found. found.0) c.find.result) c.unit-unit.ensures.value
    c.round_up-len.ensures.value (ap (option_map (λ found. found.0)) (c.in_err-start.was)) (c.find.ensures spans holds))
