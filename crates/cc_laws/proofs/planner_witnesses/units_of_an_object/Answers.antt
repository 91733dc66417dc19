use Rattle.cc_laws.proofs.WitnessLemmas.{sixteen-is_granule, unit}
use Rattle.cc_laws.proofs.PlannerWitnessLemmas.{unit_sixteen}
use Rattle.cc_laws.proofs.planner_witnesses.units_of_an_object.Goals as goal

pub returns-clause-one : goal.returns-clause-one
returns-clause-one c = unit

pub returns-clause-granule : goal.returns-clause-granule
returns-clause-granule c = sixteen-is_granule

pub returns-clause-sixteen : goal.returns-clause-sixteen
returns-clause-sixteen c = unit_sixteen
