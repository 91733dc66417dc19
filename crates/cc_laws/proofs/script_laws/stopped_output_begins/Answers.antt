use Rattle.cc_script.proofs.OutputLemmas.{stopped_begins}
use Rattle.cc_laws.proofs.script_laws.stopped_output_begins.Goals as goal

pub returns : goal.returns
returns c = stopped_begins
