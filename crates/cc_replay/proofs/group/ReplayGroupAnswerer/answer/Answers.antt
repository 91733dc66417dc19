use Rattle.std.proofs.Common.{arith}
use Rattle.std.proofs.lemmas.Grind.{common_steps}
use Rattle.cc_replay.proofs.group.ReplayGroupAnswerer.answer.Goals as goal

pub invariant_of-self : goal.invariant_of-self
invariant_of-self g c = grind (arith, common_steps) steps 4000000

pub returns : goal.returns
returns g c = grind (arith, common_steps) steps 4000000
