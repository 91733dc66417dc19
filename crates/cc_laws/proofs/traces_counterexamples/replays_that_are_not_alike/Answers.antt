use Rattle.cc_laws.proofs.TraceCounterexampleLemmas.{time-breaks}
use Rattle.cc_laws.proofs.traces_counterexamples.replays_that_are_not_alike.Goals as goal

pub returns : goal.returns
returns c = time-breaks
