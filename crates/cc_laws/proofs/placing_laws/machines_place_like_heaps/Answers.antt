use Rattle.cc_laws.proofs.PlacedAlikeLemmas.{places_alike}
use Rattle.cc_laws.proofs.placing_laws.machines_place_like_heaps.Goals as goal

pub returns : goal.returns
returns c = places_alike
