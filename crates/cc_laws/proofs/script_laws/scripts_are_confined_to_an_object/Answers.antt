use Rattle.cc_script.proofs.RunLemmas.{commands_confined_to_object}
use Rattle.cc_laws.proofs.script_laws.scripts_are_confined_to_an_object.Goals as goal

pub returns : goal.returns
returns c given old new commands replies number object reached held own within =
    commands_confined_to_object given old new commands replies number object reached held own within
