use Rattle.std.proofs.Common.{refl}
use Rattle.cc_heap.specs.Heap.{swept_heap}
use Rattle.cc_laws.proofs.TraceWitnessLemmas.{ids, output, state_of, with_freed}
use Rattle.cc_laws.proofs.traces_witnesses.a_trace_that_has_a_script.Goals as goal

pub returns : goal.returns
returns c = (state_of (swept_heap with_freed) ids, output, refl)
