-- The limits of what the slots grant that a run makes from given ones.
use Rattle.std.specs.Prelude.{ℕ, Bool, false, ◌≡◌, ◌≤◌, IsTrue, length}
use Rattle.cc_cap.specs.Capability.{GrantsNoMore}
use Rattle.cc_machine.specs.State.{State, SlotState, IsSlot}

-- GrantsWithinGiven holds if a given slot, as the old state has it, grants each byte and each
-- permission that `made` grants. It was tagged if `made` is.
pub record GrantsWithinGiven (given : ℕ → Bool) (old : State) (made : SlotState) : Type 0 where
  pub number : ℕ
  pub above : SlotState
  pub is_given : IsTrue (given number)
  pub was_there : IsSlot old number above
  pub grants_no_more : GrantsNoMore made.capability above.capability
  pub was_tagged : made.revoked ≡ false → above.revoked ≡ false

-- IsConfinedInBytes holds if every slot that the new state has and the old has not grants no more
-- than a given slot did in the old.
abbrev pub IsConfinedInBytes : (given : ℕ → Bool) → (old new : State) → Type 0
IsConfinedInBytes given old new =
    (number : ℕ) (slot : SlotState) → length old.slots ≤ number → IsSlot new number slot → GrantsWithinGiven given old slot
