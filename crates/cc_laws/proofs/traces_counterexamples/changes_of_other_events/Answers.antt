use Rattle.cc_laws.proofs.TraceCounterexampleLemmas.{changes-break, heap-breaks, opened-breaks}
use Rattle.cc_laws.proofs.traces_counterexamples.changes_of_other_events.Goals as goal

pub returns-clause-changes : goal.returns-clause-changes
returns-clause-changes c = changes-break

pub returns-clause-heap : goal.returns-clause-heap
returns-clause-heap c = heap-breaks

pub returns-clause-machine : goal.returns-clause-machine
returns-clause-machine c = opened-breaks
