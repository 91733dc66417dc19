use Rattle.cc_laws.proofs.ScriptWitnessLemmas.{begins-break, bytes-break, error-breaks, state-breaks}
use Rattle.cc_laws.proofs.scripts_counterexamples.outputs_of_no_script.Goals as goal

pub returns-clause-bytes : goal.returns-clause-bytes
returns-clause-bytes c = bytes-break

pub returns-clause-error : goal.returns-clause-error
returns-clause-error c = error-breaks

pub returns-clause-state : goal.returns-clause-state
returns-clause-state c = state-breaks

pub returns-clause-begins : goal.returns-clause-begins
returns-clause-begins c = begins-break
