use Rattle.cc_script.proofs.OutputLemmas.{one_output}
use Rattle.cc_laws.proofs.script_laws.one_output.Goals as goal

pub returns : goal.returns
returns c = one_output
