use Rattle.std.proofs.Common.{arith}
use Rattle.std.proofs.Math.Pow.{pow_mono}
use Rattle.cc_explain.proofs.steps.unit.Goals as goal

pub returns-clause-fits : goal.returns-clause-fits
returns-clause-fits c = let small = pow_mono c.requires in omega (arith, small)
