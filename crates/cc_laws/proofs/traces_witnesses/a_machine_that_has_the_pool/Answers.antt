use Rattle.cc_laws.proofs.TraceWitnessLemmas.{pool}
use Rattle.cc_laws.proofs.traces_witnesses.a_machine_that_has_the_pool.Goals as goal

pub returns : goal.returns
returns c = pool
