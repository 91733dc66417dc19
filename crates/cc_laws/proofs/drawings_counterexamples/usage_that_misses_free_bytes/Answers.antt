use Rattle.cc_laws.proofs.DrawingCounterexampleLemmas.{holes-break, largest-breaks}
use Rattle.cc_laws.proofs.drawings_counterexamples.usage_that_misses_free_bytes.Goals as goal

pub returns-clause-holes : goal.returns-clause-holes
returns-clause-holes c = holes-break

pub returns-clause-largest : goal.returns-clause-largest
returns-clause-largest c = largest-breaks
