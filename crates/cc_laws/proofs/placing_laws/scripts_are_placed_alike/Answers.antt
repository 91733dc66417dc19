use Rattle.cc_laws.proofs.OutputLemmas.{followed}
use Rattle.cc_laws.proofs.placing_laws.scripts_are_placed_alike.Goals as goal

pub returns : goal.returns
returns c = followed
