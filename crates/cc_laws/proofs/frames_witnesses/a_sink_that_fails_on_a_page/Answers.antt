use Rattle.cc_laws.proofs.FrameWitnessLemmas.{one, some, stops}
use Rattle.cc_laws.proofs.frames_witnesses.a_sink_that_fails_on_a_page.Goals as goal

pub returns-clause-some : goal.returns-clause-some
returns-clause-some c = some

pub returns-clause-one : goal.returns-clause-one
returns-clause-one c = one

pub returns-clause-stops : goal.returns-clause-stops
returns-clause-stops c = stops
