use Rattle.std.proofs.Common.{length}
use Rattle.cc_machine.specs.Planned.{plan_of}
use Rattle.cc_laws.proofs.DrawnPlanLemmas.{free_counted}
use Rattle.cc_laws.proofs.PlacedLemmas.{are_placed}
use Rattle.cc_laws.proofs.run_laws.holes_are_the_free_bytes.Goals as goal

pub returns : goal.returns
returns c state usage reached is = free_counted (length state.slots) (plan_of state) usage (are_placed state reached) is
