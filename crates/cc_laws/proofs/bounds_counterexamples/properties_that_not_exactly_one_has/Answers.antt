use Rattle.cc_laws.proofs.MarginCounterexampleLemmas.{none-breaks, two-breaks}
use Rattle.cc_laws.proofs.bounds_counterexamples.properties_that_not_exactly_one_has.Goals as goal

pub returns-clause-none : goal.returns-clause-none
returns-clause-none c = none-breaks

pub returns-clause-two : goal.returns-clause-two
returns-clause-two c = two-breaks
