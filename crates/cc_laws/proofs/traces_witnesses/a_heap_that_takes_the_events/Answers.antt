use Rattle.cc_laws.proofs.TraceWitnessLemmas.{asks, changes, events}
use Rattle.cc_laws.proofs.traces_witnesses.a_heap_that_takes_the_events.Goals as goal

pub returns-clause-events : goal.returns-clause-events
returns-clause-events c = events

pub returns-clause-asks : goal.returns-clause-asks
returns-clause-asks c = asks

pub returns-clause-changes : goal.returns-clause-changes
returns-clause-changes c = changes
