use Rattle.cc_laws.proofs.ScriptedLemmas.{output_is_script}
use Rattle.cc_laws.proofs.scripting_laws.outputs_are_scripts.Goals as goal

pub returns : goal.returns
returns c = output_is_script
