use Rattle.std.proofs.Common.{arith}
use Rattle.cc_laws.proofs.WitnessLemmas.{placement, sixteen-is_span, sixteen-sound}
use Rattle.cc_laws.proofs.PlannerWitnessLemmas.{full}
use Rattle.cc_laws.proofs.planner_witnesses.exact_bounds_in_a_pool.Goals as goal

pub returns-clause-is_span : goal.returns-clause-is_span
returns-clause-is_span c = sixteen-is_span

pub returns-clause-sound : goal.returns-clause-sound
returns-clause-sound c = sixteen-sound

pub returns-clause-within : goal.returns-clause-within
returns-clause-within c = record { from_base = omega arith; to_top = omega arith }

pub returns-clause-placement : goal.returns-clause-placement
returns-clause-placement c = placement

pub returns-clause-no_place : goal.returns-clause-no_place
returns-clause-no_place c = full
