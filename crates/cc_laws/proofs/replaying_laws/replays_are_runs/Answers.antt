use Rattle.cc_laws.proofs.TakenLemmas.{replays_are_runs, replays_run_heaps}
use Rattle.cc_laws.proofs.replaying_laws.replays_are_runs.Goals as goal

pub returns-clause-heap : goal.returns-clause-heap
returns-clause-heap c = replays_run_heaps

pub returns-clause-lost : goal.returns-clause-lost
returns-clause-lost c = replays_are_runs
