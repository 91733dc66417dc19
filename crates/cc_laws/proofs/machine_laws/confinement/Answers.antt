use Rattle.cc_machine.proofs.TreeLemmas.{Keeps-reached}
use Rattle.cc_machine.proofs.ConfinementLemmas.{IsConfined-run}
use Rattle.cc_laws.proofs.machine_laws.confinement.Goals as goal

pub returns : goal.returns
returns c given old new ops replies reached run = IsConfined-run given old new ops replies (Keeps-reached old reached) run
