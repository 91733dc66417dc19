use Rattle.cc_machine.proofs.ObjectConfinementLemmas.{confined-to-object}
use Rattle.cc_laws.proofs.machine_laws.confinement_to_an_object.Goals as goal

pub returns : goal.returns
returns c given old new ops replies number object reached held own run = confined-to-object given old new ops replies number object reached held own run
