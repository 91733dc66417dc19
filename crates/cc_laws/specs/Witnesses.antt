-- Worked states that runs lead to, and worked replies to entries, for the premises of the laws.
use Rattle.std.specs.Prelude.{ℕ, Bool, true, false, ◌≡◌, ◌+◌, ◌==◌, List, [], ◌∷◌, Some}
use Rattle.cc_bounds.specs.Span.{span_from}
use Rattle.cc_cap.specs.Capability.{Capability, root_capability, with_flag, with_span}
use Rattle.cc_plan.specs.declared.planned_object.ObjectState.TheVariants.{Live}
use Rattle.cc_machine.specs.declared.object.Object.{Object}
use Rattle.cc_machine.specs.State.{State, initial_state, with_slot}
use Rattle.cc_machine.specs.Objects.{with_object}

-- A new machine of 8 slots, with the root's slot as the pool's.
abbrev pub pooled_state : State
pooled_state = record (initial_state 8) { pool = Some 0 }

-- An object of 16 bytes, in slot 1.
abbrev pub first_object : Object
first_object = record { size = 16; slot = 1; state = Live }

-- The capability of the first 16 bytes.
abbrev pub sixteen_capability : Capability
sixteen_capability = with_span root_capability (span_from 0 16)

-- The state with the object.
abbrev pub with_first_object : State
with_first_object = with_object pooled_state sixteen_capability 0 16

-- The slot that is given to a client: the object's.
abbrev pub is_of_object : ℕ → Bool
is_of_object slot = slot == 1

-- The state in which the client has derived a slot with the flag set from it.
abbrev pub with_derived_slot : State
with_derived_slot = with_slot with_first_object (with_flag sixteen_capability true) 1

-- IsCounted holds if the reply to an entry is one byte, and the entry is counted.
abbrev pub IsCounted : (old : ℕ) → (entry text : List ℕ) → (is_error : Bool) → (new : ℕ) → Type 0
IsCounted old entry text is_error new = (text ≡ 33 ∷ []) × (is_error ≡ false) × (new ≡ old + 1)
