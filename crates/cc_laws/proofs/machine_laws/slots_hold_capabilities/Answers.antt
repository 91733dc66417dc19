use Rattle.cc_machine.proofs.TreeLemmas.{Keeps-reached}
use Rattle.cc_laws.proofs.machine_laws.slots_hold_capabilities.Goals as goal

pub returns : goal.returns
returns c state reached = (Keeps-reached state reached).holds
