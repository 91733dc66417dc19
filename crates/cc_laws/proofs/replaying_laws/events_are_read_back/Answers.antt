use Rattle.cc_laws.proofs.ReadBackLemmas.{event_read_back}
use Rattle.cc_laws.proofs.replaying_laws.events_are_read_back.Goals as goal

pub returns : goal.returns
returns c = event_read_back
