use Rattle.cc_machine.proofs.TreeLemmas.{Keeps-reached}
use Rattle.cc_machine.proofs.ReachLemmas.{ReachesAll-run, rebuilt-reachable}
use Rattle.cc_laws.proofs.machine_laws.reachability.Goals as goal

pub returns-clause-operations : goal.returns-clause-operations
returns-clause-operations c old new ops replies reached run = ReachesAll-run old new ops replies (Keeps-reached old reached) run

pub returns-clause-rebuild : goal.returns-clause-rebuild
returns-clause-rebuild c = rebuilt-reachable
