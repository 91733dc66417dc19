use Rattle.cc_laws.proofs.SweepTwiceLemmas.{sweep-twice}
use Rattle.cc_laws.proofs.machine_laws.sweeping_twice.Goals as goal

pub returns : goal.returns
returns c old mid new reply again step next = sweep-twice old mid reply step again new next
