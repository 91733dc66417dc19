use Rattle.cc_machine.specs.Planned.{plan_of}
use Rattle.cc_laws.proofs.DrawnPlanLemmas.{drawn_exactly}
use Rattle.cc_laws.proofs.PlacedLemmas.{are_placed}
use Rattle.cc_laws.proofs.run_laws.objects_are_drawn_exactly.Goals as goal

pub returns : goal.returns
returns c state reached = drawn_exactly (plan_of state) (are_placed state reached)
