use Rattle.std.proofs.Common.{arith, refl}
use Rattle.cc_laws.proofs.texts_witnesses.an_event_of_a_trace.Goals as goal

pub returns-clause-numbers : goal.returns-clause-numbers
returns-clause-numbers c = (omega arith, omega arith, omega arith)

pub returns-clause-alignment : goal.returns-clause-alignment
returns-clause-alignment c = (0, refl)
