use Rattle.cc_laws.proofs.WorkedScriptLemmas.{first-unit, second-placement, second-unit}
use Rattle.cc_laws.proofs.planner_witnesses.a_place_of_a_larger_object.Goals as goal

pub returns-clause-smaller : goal.returns-clause-smaller
returns-clause-smaller c = first-unit

pub returns-clause-larger : goal.returns-clause-larger
returns-clause-larger c = second-unit

pub returns-clause-place : goal.returns-clause-place
returns-clause-place c = second-placement.place
