use Rattle.cc_laws.proofs.OneSummaryLemmas.{some_event, some_run}
use Rattle.cc_laws.proofs.heap_laws.every_trace_has_a_summary.Goals as goal

pub returns-clause-event : goal.returns-clause-event
returns-clause-event c settings events old event run =
    let made = some_event settings events old event run in (made.result, made.new, made.is)

pub returns-clause-trace : goal.returns-clause-trace
returns-clause-trace c settings events = let made = some_run settings events in (made.new, made.is)
