-- The invariant of the fields of a machine. No public clause cites this file.
use Rattle.std.specs.Prelude.{ℕ, ◌≡◌, ◌≤◌, List, [], ◌∷◌, length, map, vec_len, vec_capacity}
use Rattle.cc_plan.specs.PlannedObject.{PlannedObject}
use Rattle.cc_machine.specs.declared.machine.Machine.TheInside.{Inside}
use Rattle.cc_machine.specs.declared.object.Object.{Object}
use Rattle.cc_machine.specs.State.{State}
use Rattle.cc_machine.specs.Planned.{plan_of}
use Rattle.cc_machine.specs.Owners.{slot_state, CountsSlots, TellsOwners}
use Rattle.cc_machine.specs.Run.{IsReached}

-- The objects of a planner, with their slots.
unfoldable pub objects_in : List PlannedObject → List ℕ → List Object
objects_in (planned ∷ rest) (slot ∷ slots) =
    record { size = planned.size; slot = slot; state = planned.state } ∷ objects_in rest slots
objects_in _ _ = []

-- The state that a machine's fields represent.
abbrev pub state_of : Inside → State
state_of machine = record {
  limit = machine.limit;
  slots = map (slot_state machine.planner.objects) machine.slots.items;
  pool = machine.pool;
  align = machine.planner.align;
  objects = objects_in machine.planner.objects machine.object_slots.items;
}

-- IsMachine holds if memory is reserved for as many slots, objects and counts as the limit, and
-- each planned object has a slot. The planner agrees with the state on the pool and the objects,
-- owners and counts are right, and the state is one that a run leads to.
pub record IsMachine (machine : Inside) : Type 0 where
  pub limit_fits : machine.limit ≤ 65536
  pub within_limit : vec_len machine.slots ≤ machine.limit
  pub has_room : machine.limit ≤ vec_capacity machine.slots
  pub has_object_room : machine.limit ≤ vec_capacity machine.object_slots
  pub has_count_room : machine.limit ≤ vec_capacity machine.slot_counts
  pub each_has_slot : length machine.object_slots.items ≡ length machine.planner.objects
  pub planned : machine.planner ≡ plan_of (state_of machine)
  pub owned : TellsOwners (map (λ slot. slot.owner) machine.slots.items) (state_of machine)
  pub counted : CountsSlots machine.planner.objects machine.slots.items machine.slot_counts.items machine.freed_slots
  pub reached : IsReached (state_of machine)
