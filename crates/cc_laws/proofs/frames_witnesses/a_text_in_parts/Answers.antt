use Rattle.std.proofs.Common.{refl}
use Rattle.cc_laws.proofs.FrameWitnessLemmas.{output}
use Rattle.cc_laws.proofs.frames_witnesses.a_text_in_parts.Goals as goal

pub returns-clause-ends : goal.returns-clause-ends
returns-clause-ends c = refl

pub returns-clause-output : goal.returns-clause-output
returns-clause-output c = output
