-- The objects of a reached state are placed as the laws of plans want it.
use Rattle.cc_machine.specs.State.{State}
use Rattle.cc_machine.specs.Planned.{plan_of}
use Rattle.cc_machine.specs.Run.{IsReached}
use Rattle.cc_laws.proofs.HeldBytesLemmas.{placed-reached}
use Rattle.cc_draw.specs.Usage.{pool_span}
use Rattle.cc_laws.specs.DrawnObjects.{ArePlaced}

pub are_placed : (state : State) → IsReached state → ArePlaced (pool_span (plan_of state)) (plan_of state).objects
are_placed state reached =
    let placed = placed-reached state reached in
    record {
      in_order = placed.in_order;
      some = placed.some;
      within = placed.within;
      disjoint = record { apart = placed.apart };
    }
