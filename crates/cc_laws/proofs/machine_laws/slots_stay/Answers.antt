use Rattle.cc_machine.proofs.TreeLemmas.{Keeps-reached}
use Rattle.cc_laws.proofs.StayingLemmas.{KeepsSlots-run}
use Rattle.cc_laws.proofs.machine_laws.slots_stay.Goals as goal

pub returns : goal.returns
returns c old new ops replies reached run = KeepsSlots-run old new ops replies (Keeps-reached old reached) run
