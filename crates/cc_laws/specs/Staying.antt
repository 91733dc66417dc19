-- What every run leaves as it is: slots, objects and the pool.
use Rattle.std.specs.Prelude.{ℕ, true, ◌≡◌, ◌≤◌, Some}
use Rattle.cc_plan.specs.declared.planned_object.ObjectState.{ObjectState}
use Rattle.cc_plan.specs.declared.planned_object.ObjectState.TheVariants.{Live, Freed, Swept}
use Rattle.cc_machine.specs.declared.object.Object.{Object}
use Rattle.cc_machine.specs.State.{State, SlotState, IsSlot}
use Rattle.cc_machine.specs.Objects.{IsObject}

-- The place of a mark in an object's life: it is live, then freed, then swept.
abbrev pub stage : ObjectState → ℕ
stage Live = 0
stage Freed = 1
stage Swept = 2

-- KeepsSlot holds if the slot with this number has the capability and the parent of `before`, and is
-- revoked if `before` is.
pub record KeepsSlot (new : State) (number : ℕ) (before : SlotState) : Type 0 where
  pub after : SlotState
  pub is_slot : IsSlot new number after
  pub capability : after.capability ≡ before.capability
  pub parent : after.parent ≡ before.parent
  pub revoked : before.revoked ≡ true → after.revoked ≡ true

-- KeepsObject holds if the object with this number has the size and the slot of `before`, and is at
-- no earlier stage.
pub record KeepsObject (new : State) (number : ℕ) (before : Object) : Type 0 where
  pub after : Object
  pub is_object : IsObject new number after
  pub size : after.size ≡ before.size
  pub slot : after.slot ≡ before.slot
  pub goes_on : stage before.state ≤ stage after.state

-- KeepsSlots holds if the limit, every slot and every object of the old state stay, and so does the
-- pool with its alignment, if there is one.
pub record KeepsSlots (old new : State) : Type 0 where
  pub limit : new.limit ≡ old.limit
  pub slots : (number : ℕ) (slot : SlotState) → IsSlot old number slot → KeepsSlot new number slot
  pub objects : (number : ℕ) (object : Object) → IsObject old number object → KeepsObject new number object
  pub pool : (pool : ℕ) → old.pool ≡ Some pool → (new.pool ≡ Some pool) × (new.align ≡ old.align)
