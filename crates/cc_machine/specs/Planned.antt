-- The plan of a state: the limit, the pool with its alignment, and the objects with their bounds.
use Rattle.std.specs.Prelude.{Option, List, map, option_and_then, option_map, slice_get}
use Rattle.cc_cap.specs.Capability.{Capability}
use Rattle.cc_plan.specs.PlannedObject.{PlannedObject}
use Rattle.cc_plan.specs.Plan.{Plan}
use Rattle.cc_machine.specs.declared.object.Object.{Object}
use Rattle.cc_machine.specs.State.{State, SlotState}
use Rattle.cc_machine.specs.Objects.{span_of_slot}

-- The capability of the pool's slot.
abbrev pub pool_capability : State → Option Capability
pool_capability state =
    option_and_then (λ number. option_map (λ slot. slot.capability) (slice_get state.slots number)) state.pool

-- An object of the plan: its size, the bounds of its slot, and its state.
abbrev pub planned_object : List SlotState → Object → PlannedObject
planned_object slots object = record {
  size = object.size;
  span = span_of_slot slots object.slot;
  state = object.state;
}

-- The plan of a state.
abbrev pub plan_of : State → Plan
plan_of state = record {
  limit = state.limit;
  pool = pool_capability state;
  align = state.align;
  objects = map (planned_object state.slots) state.objects;
}
