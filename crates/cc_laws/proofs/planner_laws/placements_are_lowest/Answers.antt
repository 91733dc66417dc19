use Rattle.cc_laws.proofs.LowestLemmas.{no_place-no_span, placement-lowest}
use Rattle.cc_laws.proofs.planner_laws.placements_are_lowest.Goals as goal

pub returns : goal.returns
returns c = record { lowest = placement-lowest; none = no_place-no_span }
