use Rattle.cc_laws.proofs.PlannerWitnessLemmas.{no_place, placement, same}
use Rattle.cc_laws.proofs.planner_witnesses.held_spans_in_either_order.Goals as goal

pub returns-clause-same : goal.returns-clause-same
returns-clause-same c = same

pub returns-clause-placement : goal.returns-clause-placement
returns-clause-placement c = placement

pub returns-clause-no_place : goal.returns-clause-no_place
returns-clause-no_place c = no_place
