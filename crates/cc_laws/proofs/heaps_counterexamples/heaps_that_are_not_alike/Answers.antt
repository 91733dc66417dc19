use Rattle.cc_laws.proofs.HeapCounterexampleLemmas.{live-breaks, lost-breaks, order-alike, totals-break}
use Rattle.cc_laws.proofs.heaps_counterexamples.heaps_that_are_not_alike.Goals as goal

pub returns-clause-order : goal.returns-clause-order
returns-clause-order c = order-alike

pub returns-clause-live : goal.returns-clause-live
returns-clause-live c = live-breaks

pub returns-clause-totals : goal.returns-clause-totals
returns-clause-totals c = totals-break

pub returns-clause-lost : goal.returns-clause-lost
returns-clause-lost c = lost-breaks
