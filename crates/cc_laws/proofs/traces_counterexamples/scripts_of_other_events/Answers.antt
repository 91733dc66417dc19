use Rattle.cc_laws.proofs.TraceCounterexampleLemmas.{line-breaks, machine-breaks, read-breaks, rest-breaks}
use Rattle.cc_laws.proofs.traces_counterexamples.scripts_of_other_events.Goals as goal

pub returns-clause-line : goal.returns-clause-line
returns-clause-line c = line-breaks

pub returns-clause-read : goal.returns-clause-read
returns-clause-read c = read-breaks

pub returns-clause-rest : goal.returns-clause-rest
returns-clause-rest c = rest-breaks

pub returns-clause-machine : goal.returns-clause-machine
returns-clause-machine c = machine-breaks
