use Rattle.cc_laws.proofs.UnfailingLemmas.{runs_to_end}
use Rattle.cc_laws.proofs.programs.unfailing_scripts_run_to_their_end.Goals as goal

pub returns : goal.returns
returns c = runs_to_end
