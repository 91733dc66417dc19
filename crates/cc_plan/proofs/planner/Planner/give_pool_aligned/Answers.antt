use Rattle.std.proofs.Common.{rules}
use Rattle.cc_plan.proofs.PlannerLemmas.{kept_given}
use Rattle.cc_plan.proofs.planner.Planner.give_pool_aligned.Goals as goal

pub invariant_of-self : goal.invariant_of-self
invariant_of-self g c =
    kept_given c.self.inside.limit c.self.inside.pool c.args.pool c.self.inside.align c.args.align
    c.self.inside.objects.items _ _ _ _ _ _ (g.P.Placer.holds c.self.inside.placer) _ c.self.inside.freed.items _
    _ _ c.self.invariant (search rules) (search rules) (search rules) (search rules) (search rules) c.set_pool.ensures.held
