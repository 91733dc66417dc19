use Rattle.cc_laws.proofs.ScriptWitnessLemmas.{takes}
use Rattle.cc_laws.proofs.scripts_witnesses.a_script_within_an_object.Goals as goal

pub returns : goal.returns
returns c = takes
