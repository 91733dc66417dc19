use Rattle.cc_laws.proofs.WitnessLemmas.{not_given}
use Rattle.cc_laws.proofs.machine_witnesses.a_slot_of_no_object.Goals as goal

pub returns : goal.returns
returns c = not_given
