use mir.Val.{bool_byte}
use Rattle.std.proofs.Common.{ℕ, Bool, true, false, cond, get_or, ◌≡◌, ◌<◌, ◌≤◌, ◌+◌, ◌∙◌, List, [], ◌∷◌, ◌++◌, Some, Result, Ok, length, map, slice_index, set, refl, sym, ap, subst, inr, arith}
use Rattle.std.specs.List.{slice_get}
use Rattle.std.proofs.lemmas.Grind.{get_or_default_zero}
use Rattle.std.proofs.lemmas.List.{length-map}
use Rattle.std.proofs.lemmas.Option.{slice_get_read}
use Rattle.cc_word.specs.declared.refusal.Refusal.{Refusal}
use Rattle.cc_word.specs.declared.refusal.Refusal.TheVariants.{Full}
use Rattle.cc_cap.specs.Capability.{Capability}
use Rattle.cc_machine.specs.declared.slot.Slot.{Slot}
use Rattle.cc_values.specs.declared.reply.Reply.{Reply}
use Rattle.cc_values.specs.declared.reply.Reply.TheVariants.{Made, Refused}
use Rattle.cc_machine.specs.State.{State}
use Rattle.cc_machine.specs.Step.{Adds}
use Rattle.cc_machine.specs.Making.{IsMade}
use Rattle.cc_machine.specs.Run.{IsReached}
use Rattle.cc_machine.specs.Owners.{is_freed_at, slot_state, CountsSlots, TellsOwners}
use Rattle.cc_machine.specs.declared.machine.Machine.TheInside.{Inside}
use Rattle.cc_machine.specs.Machine.{IsMachine, state_of}
use Rattle.cc_machine.specs.Planned.{plan_of}
use Rattle.cc_machine.proofs.ActionLemmas.{state_with}
use Rattle.cc_machine.proofs.KeptSlotLemmas.{CountsSlots-push, count-within, freed-within}
use Rattle.cc_machine.proofs.AddLemmas.{AddsTo, parent-within, owner-fits, add-adds}
use Rattle.cc_machine.proofs.machine.Machine.add.Goals as goal

pub returns-in-Err : goal.returns-in-Err
returns-in-Err c =
    subst (λ (r : Result Capability Refusal). Adds c.args.self.now c.args.parent r (Refused c.in-Err.refusal) c.args.self.now) (sym c.in-Err.is) (refl, refl)

pub returns-then-number-self : goal.returns-then-number-self
returns-then-number-self c =
    let long = ap (λ (s : State). length s.slots) c.self.view_is in
    let limit = ap (λ (s : State). s.limit) c.self.view_is in
    let count = length-map c.self.inside.slots.items (slot_state c.self.inside.planner.objects) in
    subst (λ (r : Result Capability Refusal). Adds c.args.self.now c.args.parent r (Refused Full) c.args.self.now) (sym c.in-Ok.is)
    (inr (λ less. absurd (omega (arith, less, long, limit, count, c.len-number.ensures, c.if-number-self.true)), (refl, refl)))

-- what some operation makes of the state that is kept
made_of : (inside : Inside) (now : State) → state_of inside ≡ now → (parent : ℕ) (made : Result Capability Refusal) (cap : Capability)
    → made ≡ Ok cap → IsMade now parent made → IsMade (state_of inside) parent (Ok cap)
made_of inside now is parent made cap is_made makes =
    subst (λ (s : State). IsMade s parent (Ok cap)) (sym is)
    (subst (λ (r : Result Capability Refusal). IsMade now parent r) is_made makes)

-- the parent's slot exists, and its owner has a count
record IsAbove (inside : Inside) (parent : ℕ) (up : Slot) : Type 0 where
  found : slice_get inside.slots.items parent ≡ Some up
  fits : up.owner ≤ length inside.planner.objects
  within : up.owner < length inside.slot_counts.items

within : (inside : Inside) → IsMachine inside → (parent : ℕ) (cap : Capability) → IsMade (state_of inside) parent (Ok cap)
    → parent < length inside.slots.items
within inside kept parent cap makes =
    parent-within inside.limit inside.slots.items inside.pool inside.planner inside.object_slots.items kept.planned kept.reached kept.owned
    parent cap makes

above : (inside : Inside) → IsMachine inside → (parent : ℕ) (cap : Capability) → IsMade (state_of inside) parent (Ok cap)
    → (up : Slot) → up ≡ get_or inside.slots.items parent up → IsAbove inside parent up
above inside kept parent cap makes up at =
    let found =
    slice_get_read inside.slots.items (length inside.slots.items) parent up refl (within inside kept parent cap makes) at in
    let fits =
    owner-fits inside.limit inside.slots.items inside.pool inside.planner inside.object_slots.items kept.planned kept.reached kept.owned
    parent cap makes up found in
    record { found = found; fits = fits; within = omega (arith, fits, kept.counted.as_many) }

pub index-requires : goal.index-requires
index-requires c =
    let makes =
    made_of c.self.inside c.args.self.now c.self.view_is c.args.parent c.args.made c.in-Ok.capability c.in-Ok.is c.requires in
    omega (arith, within c.self.inside c.self.invariant c.args.parent c.in-Ok.capability makes)

pub index_mut-requires : goal.index_mut-requires
index_mut-requires c =
    let makes =
    made_of c.self.inside c.args.self.now c.self.view_is c.args.parent c.args.made c.in-Ok.capability c.in-Ok.is c.requires in
    let up = above c.self.inside c.self.invariant c.args.parent c.in-Ok.capability makes c.index.result.now c.index.ensures in
    omega (arith, up.within)

pub overflow_add-index_mut : goal.overflow_add-index_mut
overflow_add-index_mut c =
    let makes =
    made_of c.self.inside c.args.self.now c.self.view_is c.args.parent c.args.made c.in-Ok.capability c.in-Ok.is c.requires in
    let up = above c.self.inside c.self.invariant c.args.parent c.in-Ok.capability makes c.index.result.now c.index.ensures in
    let few =
    count-within c.self.inside.planner.objects c.self.inside.slots.items c.self.inside.slot_counts.items c.self.inside.freed_slots
    c.index.result.now.owner c.self.invariant.counted up.within in
    let is =
    c.index_mut.ensures.value
    ∙ get_or_default_zero c.self.inside.slot_counts.items c.index.result.now.owner c.index_mut.result.now up.within in
    omega (arith, is, few, c.self.invariant.within_limit, c.self.invariant.limit_fits)

-- one slot or none
byte_is : (b : Bool) → bool_byte b ≡ cond b 1 0
byte_is true = refl
byte_is false = refl

byte_fits : (b : Bool) → bool_byte b ≤ 1
byte_fits true = omega arith
byte_fits false = omega arith

pub overflow_add-self : goal.overflow_add-self
overflow_add-self c =
    let few =
    freed-within c.self.inside.planner.objects c.self.inside.slots.items c.self.inside.slot_counts.items c.self.inside.freed_slots
    c.self.invariant.counted in
    omega (arith, few, c.from.ensures, byte_fits c.is_freed.result, c.self.invariant.within_limit, c.self.invariant.limit_fits)

-- the slot is added
added : (c : goal.After-span) → AddsTo c.self.inside.limit c.self.inside.slots.items c.self.inside.pool c.self.inside.planner c.self.inside.object_slots.items
    c.self.invariant.planned c.self.invariant.reached c.self.invariant.owned c.args.parent c.in-Ok.capability
    (made_of c.self.inside c.args.self.now c.self.view_is c.args.parent c.args.made c.in-Ok.capability c.in-Ok.is c.requires)
    c.index.result.now (Made c.len-number.result c.word.result c.span.result)
added c =
    let makes =
    made_of c.self.inside c.args.self.now c.self.view_is c.args.parent c.args.made c.in-Ok.capability c.in-Ok.is c.requires in
    let up = above c.self.inside c.self.invariant c.args.parent c.in-Ok.capability makes c.index.result.now c.index.ensures in
    add-adds c.self.inside.limit c.self.inside.slots.items c.self.inside.pool c.self.inside.planner c.self.inside.object_slots.items
    c.self.invariant.planned c.self.invariant.reached c.self.invariant.owned c.args.parent c.in-Ok.capability makes
    c.index.result.now c.len-number.result c.word.result c.span.result up.found
    (omega (arith, c.if-number-self.false, c.len-number.ensures, c.self.invariant.within_limit))
    (omega (arith, c.len-number.ensures)) c.word.ensures.word c.span.ensures.span

-- the counts with it
counted : (c : goal.After-span) → CountsSlots c.self.inside.planner.objects
    (c.self.inside.slots.items ++ record { capability = c.in-Ok.capability; after_parent = c.args.parent + 1; owner = c.index.result.now.owner } ∷ [])
    (set c.self.inside.slot_counts.items c.index.result.now.owner (c.index_mut.result.now + 1)) (c.self.inside.freed_slots + c.from.result)
counted c =
    let makes =
    made_of c.self.inside c.args.self.now c.self.view_is c.args.parent c.args.made c.in-Ok.capability c.in-Ok.is c.requires in
    let up = above c.self.inside c.self.invariant c.args.parent c.in-Ok.capability makes c.index.result.now c.index.ensures in
    let one : c.index_mut.result.now ≡ slice_index c.self.inside.slot_counts.items c.index.result.now.owner =
    c.index_mut.ensures.value
    ∙ get_or_default_zero c.self.inside.slot_counts.items c.index.result.now.owner c.index_mut.result.now up.within in
    let more : c.from.result ≡ cond (is_freed_at c.self.inside.planner.objects c.index.result.now.owner) 1 0 =
    c.from.ensures ∙ byte_is c.is_freed.result ∙ ap (λ (b : Bool). cond b 1 0) c.is_freed.ensures in
    let slots : List Slot =
    c.self.inside.slots.items ++ record { capability = c.in-Ok.capability; after_parent = c.args.parent + 1; owner = c.index.result.now.owner } ∷ [] in
    subst (λ (n : ℕ). CountsSlots c.self.inside.planner.objects slots (set c.self.inside.slot_counts.items c.index.result.now.owner (n + 1)) (c.self.inside.freed_slots + c.from.result))
    (sym one)
    (subst (λ (n : ℕ). CountsSlots c.self.inside.planner.objects slots
    (set c.self.inside.slot_counts.items c.index.result.now.owner (slice_index c.self.inside.slot_counts.items c.index.result.now.owner + 1))
    (c.self.inside.freed_slots + n)) (sym more)
    (CountsSlots-push c.self.inside.planner.objects c.self.inside.slots.items c.self.inside.slot_counts.items c.self.inside.freed_slots
    (record { capability = c.in-Ok.capability; after_parent = c.args.parent + 1; owner = c.index.result.now.owner }) c.self.invariant.counted up.fits))

pub invariant_of-self : goal.invariant_of-self
invariant_of-self c =
    let State_of : List Slot → State = λ slots.
    state_with c.self.inside.limit (map (slot_state c.self.inside.planner.objects) slots) c.self.inside.pool c.self.inside.planner c.self.inside.object_slots.items in
    let items = sym c.push_reserved.ensures.items in
    record {
      limit_fits = c.self.invariant.limit_fits;
      within_limit =
          omega (arith, c.push_reserved.ensures.len, c.if-number-self.false, c.len-number.ensures, c.self.invariant.within_limit);
      has_room = omega (arith, c.push_reserved.ensures.capacity, c.self.invariant.has_room);
      has_object_room = c.self.invariant.has_object_room;
      has_count_room = c.self.invariant.has_count_room;
      each_has_slot = c.self.invariant.each_has_slot;
      planned = subst (λ (slots : List Slot). c.self.inside.planner ≡ plan_of (State_of slots)) items (added c).is_plan;
      owned =
          subst (λ (slots : List Slot). TellsOwners (map (λ (s : Slot). s.owner) slots) (State_of slots)) items (added c).owned_now;
      counted =
          subst (λ (slots : List Slot). CountsSlots c.self.inside.planner.objects slots
          (set c.self.inside.slot_counts.items c.index.result.now.owner (c.index_mut.result.now + 1)) (c.self.inside.freed_slots + c.from.result)) items
          (counted c);
      reached = subst (λ (slots : List Slot). IsReached (State_of slots)) items (added c).reached_now;
    }

pub returns : goal.returns
returns c =
    let State_of : List Slot → State = λ slots.
    state_with c.self.inside.limit (map (slot_state c.self.inside.planner.objects) slots) c.self.inside.pool c.self.inside.planner c.self.inside.object_slots.items in
    let items = sym c.push_reserved.ensures.items in
    let reply : Reply = Made c.len-number.result c.word.result c.span.result in
    let new : State = State_of c.push_reserved.new.self.items in
    subst (λ (r : Result Capability Refusal). Adds c.args.self.now c.args.parent r reply new) (sym c.in-Ok.is)
    (subst (λ (old : State). Adds old c.args.parent (Ok c.in-Ok.capability) reply new) c.self.view_is
    (subst (λ (slots : List Slot). Adds (state_of c.self.inside) c.args.parent (Ok c.in-Ok.capability) reply (State_of slots)) items (added c).adds))
