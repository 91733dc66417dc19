use Rattle.cc_laws.proofs.TraceCounterexampleLemmas.{high-breaks, no_event-breaks, quarantine-breaks}
use Rattle.cc_laws.proofs.traces_counterexamples.levels_of_other_events.Goals as goal

pub returns-clause-high : goal.returns-clause-high
returns-clause-high c = high-breaks

pub returns-clause-quarantine : goal.returns-clause-quarantine
returns-clause-quarantine c = quarantine-breaks

pub returns-clause-event : goal.returns-clause-event
returns-clause-event c = no_event-breaks
