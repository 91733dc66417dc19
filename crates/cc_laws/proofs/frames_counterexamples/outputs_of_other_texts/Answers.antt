use Rattle.cc_laws.proofs.FrameWitnessLemmas.{begins-break, parts-break, stops-break}
use Rattle.cc_laws.proofs.frames_counterexamples.outputs_of_other_texts.Goals as goal

pub returns-clause-parts : goal.returns-clause-parts
returns-clause-parts c = parts-break

pub returns-clause-begins : goal.returns-clause-begins
returns-clause-begins c = begins-break

pub returns-clause-stops : goal.returns-clause-stops
returns-clause-stops c = stops-break
