-- States that break the laws, each one of them, so that no law holds for everything. No run leads
-- to a state that breaks a law. Only the tests of the laws cite this file.
use Rattle.std.specs.Prelude.{ℕ, Bool, true, ◌≡◌, ◌^◌, ◌==◌, List, [], ◌∷◌, ◌++◌, Some, None}
use Rattle.cc_word.specs.declared.refusal.Refusal.TheVariants.{Full}
use Rattle.cc_bounds.specs.Span.{span_from}
use Rattle.cc_cap.specs.Capability.{Capability, root_capability, at_address, with_span, with_permissions, sealed_with}
use Rattle.cc_bounds.specs.declared.align.Align.TheVariants.{One, Sixteen}
use Rattle.cc_plan.specs.declared.planned_object.ObjectState.{ObjectState}
use Rattle.cc_plan.specs.declared.planned_object.ObjectState.TheVariants.{Live, Freed, Swept}
use Rattle.cc_machine.specs.declared.object.Object.{Object}
use Rattle.cc_values.specs.declared.reply.Reply.{Reply}
use Rattle.cc_values.specs.declared.reply.Reply.TheVariants.{Refused}
use Rattle.cc_machine.specs.State.{State, SlotState, tagged_slot}

-- A state of these slots, with no pool and no object.
abbrev pub of_slots : List SlotState → State
of_slots slots = record { limit = 8; slots = slots; pool = None; align = One; objects = [] }

-- A state of these slots and objects, with slot 0 as the pool's.
abbrev pub of_objects : List SlotState → List Object → State
of_objects slots objects = record (of_slots slots) { pool = Some 0; objects = objects }

-- A tagged slot without a parent.
abbrev pub first_slot : Capability → SlotState
first_slot capability = tagged_slot capability None

-- A tagged slot that was derived from slot 0.
abbrev pub child_slot : Capability → SlotState
child_slot capability = tagged_slot capability (Some 0)

-- The slot, revoked.
abbrev pub revoked_slot : SlotState → SlotState
revoked_slot slot = record slot { revoked = true }

-- The root capability with other bounds.
abbrev pub bounded_root : (base size : ℕ) → Capability
bounded_root base size = with_span root_capability (span_from base size)

-- The root capability with no permission.
abbrev pub powerless_root : Capability
powerless_root = with_permissions root_capability 0

-- An object of one byte.
abbrev pub counterexample_object : (slot : ℕ) → ObjectState → Object
counterexample_object slot mark = record { size = 1; slot = slot; state = mark }

-- ---- slots

-- A slot with bounds that no word stores: their base is not a multiple of their granule.
abbrev pub unsound_bounds : State
unsound_bounds = of_slots (first_slot (bounded_root 1 4096) ∷ [])

-- A slot with the address 2^64.
abbrev pub address_past_the_end : State
address_past_the_end = of_slots (first_slot (at_address root_capability (2 ^ 64)) ∷ [])

-- A slot sealed with the type 0x3fff0.
abbrev pub reserved_type : State
reserved_type = of_slots (first_slot (sealed_with root_capability 0x3fff0) ∷ [])

-- A slot that is its own parent.
abbrev pub own_parent : State
own_parent = of_slots (child_slot root_capability ∷ [])

-- A slot of 16 bytes, and a child of 17.
abbrev pub child_with_more_bytes : State
child_with_more_bytes = of_slots (first_slot (bounded_root 0 16) ∷ child_slot (bounded_root 0 17) ∷ [])

-- A slot without permissions, and a revoked child with the root's permissions.
abbrev pub revoked_child_with_more_permissions : State
revoked_child_with_more_permissions =
    of_slots (first_slot powerless_root ∷ revoked_slot (child_slot root_capability) ∷ [])

-- The root sealed with type 0, by no authority.
abbrev pub sealed_by_none : State
sealed_by_none = of_slots (first_slot (sealed_with root_capability 0) ∷ [])

-- A sealed slot and an unsealed child, with no slot that was an authority.
abbrev pub unsealed_by_none : State
unsealed_by_none = of_slots (first_slot (sealed_with root_capability 0) ∷ child_slot root_capability ∷ [])

-- ---- objects

-- An object in the root's slot, and no pool.
abbrev pub object_without_pool : State
object_without_pool = record (of_slots (first_slot root_capability ∷ [])) { objects = counterexample_object 0 Live ∷ [] }

-- Two objects with one slot.
abbrev pub slot_of_two_objects : State
slot_of_two_objects =
    of_objects (first_slot root_capability ∷ child_slot (bounded_root 0 1) ∷ []) (counterexample_object 1 Live ∷ counterexample_object 1 Live ∷ [])

-- An object of one byte whose slot has two.
abbrev pub object_with_another_byte : State
object_with_another_byte =
    of_objects (first_slot root_capability ∷ child_slot (bounded_root 0 2) ∷ []) (counterexample_object 1 Live ∷ [])

-- An object of no bytes.
abbrev pub object_without_bytes : State
object_without_bytes =
    of_objects (first_slot root_capability ∷ child_slot (bounded_root 0 0) ∷ [])
    (record (counterexample_object 1 Live) { size = 0 } ∷ [])

-- An object at address 1 of a pool of alignment 16.
abbrev pub object_off_alignment : State
object_off_alignment =
    record (of_objects (first_slot root_capability ∷ child_slot (bounded_root 1 16) ∷ []) (counterexample_object 1 Live ∷ [])) { align = Sixteen }

-- A live object in the byte of a freed one.
abbrev pub live_in_freed : State
live_in_freed =
    of_objects (first_slot root_capability ∷ child_slot (bounded_root 0 1) ∷ child_slot (bounded_root 0 1) ∷ [])
    (counterexample_object 1 Freed ∷ counterexample_object 2 Live ∷ [])

-- A slot that belongs to no object, revoked.
abbrev pub revoked_without_object : State
revoked_without_object = of_slots (first_slot root_capability ∷ revoked_slot (child_slot root_capability) ∷ [])

-- The slot of a swept object, still tagged.
abbrev pub tagged_after_sweep : State
tagged_after_sweep =
    of_objects (first_slot root_capability ∷ child_slot (bounded_root 0 1) ∷ []) (counterexample_object 1 Swept ∷ [])

-- The slot of a swept object, still tagged, and a live object in its byte.
abbrev pub reused_before_revocation : State
reused_before_revocation =
    of_objects (first_slot root_capability ∷ child_slot (bounded_root 0 1) ∷ child_slot (bounded_root 0 1) ∷ [])
    (counterexample_object 1 Swept ∷ counterexample_object 2 Live ∷ [])

-- A pool of one byte, with two live objects of one byte.
abbrev pub objects_past_the_pool : State
objects_past_the_pool =
    of_objects (first_slot (bounded_root 0 1) ∷ child_slot (bounded_root 0 1) ∷ child_slot (bounded_root 1 1) ∷ [])
    (counterexample_object 1 Live ∷ counterexample_object 2 Live ∷ [])

-- The slot of a live object, revoked.
abbrev pub revoked_while_live : State
revoked_while_live =
    of_objects (first_slot root_capability ∷ revoked_slot (child_slot (bounded_root 0 1)) ∷ []) (counterexample_object 1 Live ∷ [])

-- The slot of the pool, revoked.
abbrev pub revoked_pool : State
revoked_pool = of_objects (revoked_slot (first_slot root_capability) ∷ []) []

-- ---- runs

-- The slot that is given: the first.
abbrev pub is_first : ℕ → Bool
is_first slot = slot == 0

-- Two slots without permissions.
abbrev pub two_slots : State
two_slots = of_slots (first_slot powerless_root ∷ first_slot powerless_root ∷ [])

-- The two slots, and a child of the second.
abbrev pub child_of_another : State
child_of_another = record two_slots { slots = two_slots.slots ++ tagged_slot powerless_root (Some 1) ∷ [] }

-- A sealed slot without a permission.
abbrev pub sealed_alone : State
sealed_alone = of_slots (first_slot (sealed_with powerless_root 0) ∷ [])

-- The sealed slot, and an unsealed child.
abbrev pub child_unsealed : State
child_unsealed = record sealed_alone { slots = sealed_alone.slots ++ child_slot powerless_root ∷ [] }

-- An unsealed slot without a permission.
abbrev pub unsealed_alone : State
unsealed_alone = of_slots (first_slot powerless_root ∷ [])

-- The unsealed slot, and a sealed child.
abbrev pub child_sealed : State
child_sealed = record unsealed_alone { slots = unsealed_alone.slots ++ child_slot (sealed_with powerless_root 0) ∷ [] }

-- Two live objects of one byte.
abbrev pub two_objects : State
two_objects =
    of_objects (first_slot root_capability ∷ child_slot (bounded_root 0 1) ∷ child_slot (bounded_root 1 1) ∷ [])
    (counterexample_object 1 Live ∷ counterexample_object 2 Live ∷ [])

-- The two objects, and a child of the pool's slot, which belongs to neither of them.
abbrev pub child_of_the_pool : State
child_of_the_pool = record two_objects { slots = two_objects.slots ++ child_slot (bounded_root 2 1) ∷ [] }

-- The two objects, and a slot derived from the first that has the byte of the second.
abbrev pub child_in_another_object : State
child_in_another_object =
    record two_objects { slots = two_objects.slots ++ tagged_slot (bounded_root 1 1) (Some 1) ∷ [] }

-- The two objects, of which the first is swept, and a slot derived from it that is still tagged.
abbrev pub child_tagged_after_sweep : State
child_tagged_after_sweep = record two_objects {
  slots = two_objects.slots ++ tagged_slot (bounded_root 0 1) (Some 1) ∷ [];
  objects = counterexample_object 1 Swept ∷ counterexample_object 2 Live ∷ [];
}

-- The root alone.
abbrev pub root_alone : State
root_alone = of_slots (first_slot root_capability ∷ [])

-- The five replies of a machine that refuses everything.
abbrev pub five_refusals : List Reply
five_refusals = Refused Full ∷ Refused Full ∷ Refused Full ∷ Refused Full ∷ Refused Full ∷ []

-- ---- states that do not stay

-- The root alone, under a limit of 9 slots.
abbrev pub with_another_limit : State
with_another_limit = record root_alone { limit = 9 }

-- The root as the pool's slot.
abbrev pub pool_alone : State
pool_alone = of_objects (first_slot root_capability ∷ []) []

-- An object that is live after it was swept.
abbrev pub live_after_sweep : State
live_after_sweep = record tagged_after_sweep { objects = counterexample_object 1 Live ∷ [] }

-- An object of two bytes after it had one.
abbrev pub grown_object : State
grown_object = record tagged_after_sweep { objects = record (counterexample_object 1 Swept) { size = 2 } ∷ [] }

-- The slot without permissions, and a child with the root's permissions.
abbrev pub child_with_more_permissions : State
child_with_more_permissions = record unsealed_alone { slots = unsealed_alone.slots ++ child_slot root_capability ∷ [] }

-- A slot of 16 bytes.
abbrev pub sixteen_bytes : State
sixteen_bytes = of_slots (first_slot (bounded_root 0 16) ∷ [])

-- A revoked slot.
abbrev pub revoked_alone : State
revoked_alone = of_slots (revoked_slot (first_slot root_capability) ∷ [])

-- The revoked slot, and a tagged child.
abbrev pub child_of_revoked : State
child_of_revoked = record revoked_alone { slots = revoked_alone.slots ++ child_slot root_capability ∷ [] }

-- ---- replies

-- IsSilent holds if the reply to an entry is empty.
abbrev pub IsSilent : (old : ℕ) → (entry text : List ℕ) → (is_error : Bool) → (new : ℕ) → Type 0
IsSilent old entry text is_error new = text ≡ []

-- IsAnything holds for every reply to an entry.
abbrev pub IsAnything : (old : ℕ) → (entry text : List ℕ) → (is_error : Bool) → (new : ℕ) → Type 0
IsAnything old entry text is_error new = Unit {0}
