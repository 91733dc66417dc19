use Rattle.cc_laws.proofs.HeapCounterexampleLemmas.{other_heap-breaks, outcome-breaks, run-breaks}
use Rattle.cc_laws.proofs.heaps_counterexamples.outcomes_of_another_event.Goals as goal

pub returns-clause-heap : goal.returns-clause-heap
returns-clause-heap c = other_heap-breaks

pub returns-clause-outcome : goal.returns-clause-outcome
returns-clause-outcome c = outcome-breaks

pub returns-clause-run : goal.returns-clause-run
returns-clause-run c = run-breaks
