use Rattle.cc_laws.proofs.TraceCounterexampleLemmas.{accepted-breaks, held-breaks, spans-break}
use Rattle.cc_laws.proofs.traces_counterexamples.machines_that_place_otherwise.Goals as goal

pub returns-clause-accepted : goal.returns-clause-accepted
returns-clause-accepted c = accepted-breaks

pub returns-clause-spans : goal.returns-clause-spans
returns-clause-spans c = spans-break

pub returns-clause-held : goal.returns-clause-held
returns-clause-held c = held-breaks
