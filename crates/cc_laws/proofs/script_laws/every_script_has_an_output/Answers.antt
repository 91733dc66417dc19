use Rattle.cc_laws.proofs.ScriptTotalLemmas.{has_output}
use Rattle.cc_laws.proofs.script_laws.every_script_has_an_output.Goals as goal

pub returns : goal.returns
returns c = has_output
