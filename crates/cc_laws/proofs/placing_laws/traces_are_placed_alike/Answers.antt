use Rattle.cc_laws.proofs.TraceLemmas.{translated}
use Rattle.cc_laws.proofs.placing_laws.traces_are_placed_alike.Goals as goal

pub returns : goal.returns
returns c = translated
