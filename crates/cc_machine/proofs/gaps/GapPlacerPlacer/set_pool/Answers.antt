use Rattle.std.proofs.Common.{◌≡◌, ◌∙◌, [], arith, ap}
use Rattle.cc_machine.specs.GapRowState.{gaps_in}
use Rattle.cc_machine.specs.GapPlacer.{GapPlacerState}
use Rattle.cc_machine.proofs.GapPlacerLemmas.{few_pool_gaps}
use Rattle.cc_machine.proofs.gaps.GapPlacerPlacer.set_pool.Goals as goal

pub give-requires-clause-room : goal.give-requires-clause-room
give-requires-clause-room c more are bytes =
    let none : gaps_in c.self.inside.row ≡ [] = c.self.invariant.none_before (ap (λ (p : GapPlacerState). p.pool)
    c.self.view_is ∙ c.requires.no_pool) in
    omega (arith, few_pool_gaps (gaps_in c.self.inside.row) more c.args.span none are bytes, c.self.invariant.at_most)
