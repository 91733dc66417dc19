use Rattle.cc_laws.proofs.HeapCounterexampleLemmas.{peak-breaks, size-breaks, total-breaks}
use Rattle.cc_laws.proofs.heaps_counterexamples.numbers_of_other_states.Goals as goal

pub returns-clause-totals : goal.returns-clause-totals
returns-clause-totals c = total-breaks

pub returns-clause-sizes : goal.returns-clause-sizes
returns-clause-sizes c = size-breaks

pub returns-clause-peaks : goal.returns-clause-peaks
returns-clause-peaks c = peak-breaks
