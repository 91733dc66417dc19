use Rattle.std.proofs.Common.{◌≤◌, arith}
use Rattle.std.proofs.Math.Pow.{pow_mono}
use Rattle.cc_replay.proofs.size_table.power_of_two.Goals as goal

pub returns-clause-fits : goal.returns-clause-fits
returns-clause-fits c =
    let below : c.args.power ≤ 64 = omega (arith, c.requires) in
    let small = pow_mono below in
    omega (arith, small)
