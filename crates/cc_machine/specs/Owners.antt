-- The object that each slot belongs to, which a machine keeps in addition to its state, the number of
-- slots that belong to each, and the parent of a slot as it is kept. No public clause cites this file.
use Rattle.std.specs.Prelude.{ℕ, zero, suc, Bool, false, ◌≡◌, ◌≤◌, ◌<◌, ◌↔◌, List, Option, Some, None, count_by, length, nat_eq, not, option_map, slice_index, unwrap_or}
use Rattle.cc_plan.specs.PlannedObject.{PlannedObject}
use Rattle.cc_plan.specs.Plan.{is_freed, is_held, object_numbered}
use Rattle.cc_machine.specs.declared.object.Object.{Object}
use Rattle.cc_machine.specs.declared.slot.Slot.{Slot}
use Rattle.cc_machine.specs.State.{State, SlotState}
use Rattle.cc_machine.specs.Objects.{IsObject, BelongsTo}

-- Whether the object with this number was swept.
abbrev pub is_swept_at : List PlannedObject → ℕ → Bool
is_swept_at objects number =
    unwrap_or (option_map (λ object. not (is_held object.state)) (object_numbered objects number)) false

-- Whether the object with this number was freed, and not swept.
abbrev pub is_freed_at : List PlannedObject → ℕ → Bool
is_freed_at objects number =
    unwrap_or (option_map (λ object. is_freed object.state) (object_numbered objects number)) false

-- The number before another, or none before 0.
abbrev pub number_before : ℕ → Option ℕ
number_before zero = None
number_before (suc before) = Some before

-- The parent of a slot, of which the number after it is kept: 0 if there is none.
abbrev pub parent_of : Slot → Option ℕ
parent_of slot = number_before slot.after_parent

-- A slot of the state: it is revoked if and only if the object that it belongs to was swept.
abbrev pub slot_state : List PlannedObject → Slot → SlotState
slot_state objects slot = record {
  capability = slot.capability;
  revoked = is_swept_at objects slot.owner;
  parent = parent_of slot;
}

-- The number of slots with this owner.
abbrev pub owned_count : ℕ → List Slot → ℕ
owned_count owner slots = count_by (λ slot. nat_eq slot.owner owner) slots

-- The number of slots with an owner that was freed, and not swept.
abbrev pub freed_slot_count : List PlannedObject → List Slot → ℕ
freed_slot_count objects slots = count_by (λ slot. is_freed_at objects slot.owner) slots

-- TellsOwners holds if each slot's owner is the number of the object that it belongs to, or 0 if it
-- belongs to none.
pub record TellsOwners (owners : List ℕ) (state : State) : Type 0 where
  pub as_many : length owners ≡ length state.slots
  pub fits : (slot : ℕ) → slice_index owners slot ≤ length state.objects
  pub each :
      (slot number : ℕ) (object : Object) → slot < length state.slots → IsObject state number object
      → (slice_index owners slot ≡ number) ↔ BelongsTo state object slot

-- CountsSlots holds if `counts` has the number of slots of each owner, and at 0 the number of slots
-- without an object. `freed` is the number of slots that belong to freed objects.
pub record CountsSlots (objects : List PlannedObject) (slots : List Slot) (counts : List ℕ) (freed : ℕ) : Type 0 where
  pub as_many : length counts ≡ suc (length objects)
  pub each : (owner : ℕ) → owner < length counts → slice_index counts owner ≡ owned_count owner slots
  pub all_freed : freed ≡ freed_slot_count objects slots
