use Rattle.cc_laws.proofs.ScriptWitnessLemmas.{reached, setup}
use Rattle.cc_laws.proofs.scripts_witnesses.a_state_with_setup_operations.Goals as goal

pub returns-clause-reached : goal.returns-clause-reached
returns-clause-reached c = reached

pub returns-clause-setup : goal.returns-clause-setup
returns-clause-setup c = setup
