use Rattle.cc_laws.proofs.HeldAgainLemmas.{held-again}
use Rattle.cc_laws.proofs.placing_laws.scripts_hold_the_bytes_of_replays.Goals as goal

pub returns : goal.returns
returns c = held-again
