use Rattle.cc_laws.proofs.DrawingCounterexampleLemmas.{apart-breaks, empty-breaks, free-breaks, in_pool-breaks}
use Rattle.cc_laws.proofs.drawings_counterexamples.spans_that_are_not_holes.Goals as goal

pub returns-clause-free : goal.returns-clause-free
returns-clause-free c = free-breaks

pub returns-clause-in_pool : goal.returns-clause-in_pool
returns-clause-in_pool c = in_pool-breaks

pub returns-clause-apart : goal.returns-clause-apart
returns-clause-apart c = apart-breaks

pub returns-clause-some : goal.returns-clause-some
returns-clause-some c = empty-breaks
