use Rattle.cc_laws.proofs.FrameWitnessLemmas.{none-breaks, two-breaks}
use Rattle.cc_laws.proofs.frames_counterexamples.replies_that_are_none_or_two.Goals as goal

pub returns-clause-none : goal.returns-clause-none
returns-clause-none c = none-breaks

pub returns-clause-two : goal.returns-clause-two
returns-clause-two c = two-breaks
