use Rattle.cc_laws.proofs.TraceCounterexampleLemmas.{event-breaks, levels-break, run-breaks}
use Rattle.cc_laws.proofs.traces_counterexamples.charts_of_other_events.Goals as goal

pub returns-clause-event : goal.returns-clause-event
returns-clause-event c = event-breaks

pub returns-clause-levels : goal.returns-clause-levels
returns-clause-levels c = levels-break

pub returns-clause-run : goal.returns-clause-run
returns-clause-run c = run-breaks
