use Rattle.cc_laws.proofs.StepCounterexampleLemmas.{past_end-breaks}
use Rattle.cc_laws.proofs.machine_counterexamples.a_step_that_has_no_outcome.Goals as goal

pub returns : goal.returns
returns c = past_end-breaks
