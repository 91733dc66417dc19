use Rattle.cc_laws.proofs.RefusedLemmas.{made_up_is_refused, silent_is_refused}
use Rattle.cc_laws.proofs.programs.false_programs_are_refused.Goals as goal

pub returns-clause-silent : goal.returns-clause-silent
returns-clause-silent c = silent_is_refused

pub returns-clause-made_up : goal.returns-clause-made_up
returns-clause-made_up c = made_up_is_refused
