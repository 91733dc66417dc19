use Rattle.cc_machine.proofs.RunLemmas.{IsReached-run}
use Rattle.cc_laws.proofs.machine_laws.runs_join.Goals as goal

pub returns : goal.returns
returns c = IsReached-run
