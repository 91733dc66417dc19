use Rattle.cc_bounds.proofs.GranuleLemmas.{granule_of_steps}
use Rattle.cc_bounds.proofs.rounding.coarse_power.Goals as goal

pub returns-clause-granule : goal.returns-clause-granule
returns-clause-granule c = λ long.
    (granule_of_steps c.args.request.now c.last_byte-last.result c.distance.result c.raised.result c.leading_power-power.result
    c.distance-2.result c.growth.result long c.last_byte-last.ensures c.distance.ensures c.raised.ensures.same
    c.leading_power-power.ensures.least c.leading_power-power.ensures.below c.distance-2.ensures c.growth.ensures.few
    c.growth.ensures.many).1

pub returns-clause-coarse : goal.returns-clause-coarse
returns-clause-coarse c = λ long.
    (granule_of_steps c.args.request.now c.last_byte-last.result c.distance.result c.raised.result c.leading_power-power.result
    c.distance-2.result c.growth.result long c.last_byte-last.ensures c.distance.ensures c.raised.ensures.same
    c.leading_power-power.ensures.least c.leading_power-power.ensures.below c.distance-2.ensures c.growth.ensures.few
    c.growth.ensures.many).0
