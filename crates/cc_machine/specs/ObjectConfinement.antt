-- The reuse of an object's bytes, and the slots that a run makes if it uses only an object's slots.
use Rattle.std.specs.Prelude.{ℕ, Bool, false, true, ◌≡◌, ◌≢◌, ◌<◌, ◌≤◌, IsTrue, length}
use Rattle.cc_bounds.specs.Span.{SharesByte}
use Rattle.cc_plan.specs.declared.planned_object.ObjectState.TheVariants.{Swept}
use Rattle.cc_machine.specs.declared.object.Object.{Object}
use Rattle.cc_machine.specs.State.{State, SlotState, IsSlot}
use Rattle.cc_machine.specs.Objects.{IsObject, IsHeldObject, BelongsTo}

-- ReusesAfterRevocation holds if bytes are reused only after revocation. If a tagged slot that
-- belongs to an object shares a byte with a slot that belongs to a held object, the two objects are
-- the same.
pub record ReusesAfterRevocation (state : State) : Type 0 where
  pub same :
      (one other : ℕ) (first second : Object) (mine theirs : ℕ) (slot beside : SlotState)
      → IsObject state one first → IsHeldObject state other second
      → BelongsTo state first mine → BelongsTo state second theirs
      → IsSlot state mine slot → IsSlot state theirs beside → slot.revoked ≡ false
      → SharesByte slot.capability.span beside.capability.span → one ≡ other

-- AreOfObject holds if each given slot of the state belongs to the object.
abbrev pub AreOfObject : (given : ℕ → Bool) → State → Object → Type 0
AreOfObject given state object =
    (number : ℕ) → number < length state.slots → IsTrue (given number) → BelongsTo state object number

-- IsConfinedToObject holds if the slots made between the two states are confined to the object with
-- this number. Each belongs to the object, and shares no byte with a slot of another object that was
-- held in the old state. Each is revoked if the object is swept in the new state.
pub record IsConfinedToObject (old new : State) (number : ℕ) (object : Object) : Type 0 where
  pub belongs : (made : ℕ) → length old.slots ≤ made → made < length new.slots → BelongsTo new object made
  pub apart :
      (other : ℕ) (second : Object) (made theirs : ℕ) (slot beside : SlotState)
      → IsHeldObject old other second → number ≢ other → BelongsTo old second theirs → IsSlot old theirs beside
      → length old.slots ≤ made → IsSlot new made slot
      → ¬ SharesByte slot.capability.span beside.capability.span
  pub revoked :
      (now : Object) (made : ℕ) (slot : SlotState) → IsObject new number now → now.state ≡ Swept
      → length old.slots ≤ made → IsSlot new made slot → slot.revoked ≡ true
