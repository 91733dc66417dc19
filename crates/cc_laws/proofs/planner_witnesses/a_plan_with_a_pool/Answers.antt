use Rattle.std.proofs.Common.{refl}
use Rattle.cc_laws.proofs.DrawingWitnessLemmas.{placed}
use Rattle.cc_laws.proofs.PlannerWitnessLemmas.{within}
use Rattle.cc_laws.proofs.planner_witnesses.a_plan_with_a_pool.Goals as goal

pub returns-clause-within : goal.returns-clause-within
returns-clause-within c = within

pub returns-clause-disjoint : goal.returns-clause-disjoint
returns-clause-disjoint c = placed.disjoint

pub returns-clause-pool : goal.returns-clause-pool
returns-clause-pool c = refl
