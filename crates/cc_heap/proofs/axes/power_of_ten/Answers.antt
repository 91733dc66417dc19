use Rattle.std.proofs.Common.{arith}
use Rattle.cc_heap.proofs.AxisLemmas.{small_power}
use Rattle.cc_heap.proofs.axes.power_of_ten.Goals as goal

pub pow-requires : goal.pow-requires
pow-requires c =
    let small = small_power c.args.zeros c.requires in
    omega (arith, small)

pub returns-clause-fits : goal.returns-clause-fits
returns-clause-fits c = rw c.pow.ensures (small_power c.args.zeros c.requires)
