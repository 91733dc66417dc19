use Rattle.std.proofs.Common.{ℕ, ◌≡◌, ◌+◌, ◌<◌, ◌≤◌, ◌∙◌, List, [], ◌∷◌, ◌++◌, length, map, slice_index, refl, Some, Result, Ok, Err, arith, sym, ap, subst}
use Rattle.std.proofs.lemmas.List.{length-map, map_push}
use Rattle.cc_word.specs.declared.refusal.Refusal.{Refusal}
use Rattle.cc_cap.specs.Capability.{Capability}
use Rattle.cc_plan.specs.declared.planned_object.ObjectId.{ObjectId}
use Rattle.cc_plan.specs.declared.planned_object.ObjectState.{ObjectState}
use Rattle.cc_plan.specs.PlannedObject.{PlannedObject}
use Rattle.cc_plan.specs.Plan.{Plan, PlanAllocates, is_held}
use Rattle.cc_values.specs.declared.op.Op.TheVariants.{Alloc}
use Rattle.cc_machine.specs.declared.slot.Slot.{Slot}
use Rattle.cc_values.specs.declared.reply.Reply.{Reply}
use Rattle.cc_values.specs.declared.reply.Reply.TheVariants.{Allocated, Refused}
use Rattle.cc_machine.specs.State.{State, SlotState, tagged_slot}
use Rattle.cc_machine.specs.Step.{Allocates}
use Rattle.cc_machine.specs.declared.machine.Machine.TheInside.{Inside}
use Rattle.cc_machine.specs.Run.{IsReached}
use Rattle.cc_machine.specs.Owners.{slot_state, CountsSlots, TellsOwners}
use Rattle.cc_machine.specs.Machine.{IsMachine, state_of}
use Rattle.cc_machine.specs.Planned.{plan_of}
use Rattle.cc_machine.proofs.TreeLemmas.{Keeps-reached}
use Rattle.cc_machine.proofs.GrowthLemmas.{HasUnsealed}
use Rattle.cc_machine.proofs.RunLemmas.{IsReached-step}
use Rattle.cc_machine.proofs.ObjectLawLemmas.{KeepsObjects-reached}
use Rattle.cc_machine.proofs.KeptSlotLemmas.{CountsSlots-made, before-next, slots-first}
use Rattle.cc_machine.proofs.PlanLemmas.{objects_in-length}
use Rattle.cc_machine.proofs.ActionLemmas.{state_with, AllocatesTo, PlansObject, alloc-allocates, alloc-plans, alloc-refused, alloc-refuses}
use Rattle.cc_machine.proofs.SlotLemmas.{IsSlot-within}
use Rattle.cc_machine.proofs.machine.Machine.alloc.Goals as goal

-- the pool's slot
own_pool : (inside : Inside) → IsMachine inside → (number : ℕ) → inside.pool ≡ Some number → HasUnsealed (state_of inside) number
own_pool inside kept number is = (Keeps-reached (state_of inside) kept.reached).pool number is

-- there are fewer objects than slots
fewer : (inside : Inside) → IsMachine inside → length inside.planner.objects < length inside.slots.items
fewer inside kept =
    omega (
      arith,
      (KeepsObjects-reached (state_of inside) kept.reached).fewer,
      objects_in-length inside.planner.objects inside.object_slots.items kept.each_has_slot,
      length-map inside.slots.items (slot_state inside.planner.objects),
    )

pub invariant_of-self : goal.invariant_of-self
invariant_of-self c =
    let same : c.alloc.new.self ≡ c.self.inside.planner =
    alloc-refused c.self.inside.planner c.alloc.new.self c.get-size.result c.in-Err.refusal
    (subst (λ (r : Result (ObjectId × Capability) Refusal). PlanAllocates c.self.inside.planner c.get-size.result r c.alloc.new.self)
    c.in-Err.is c.alloc.ensures.rule) in
    subst (λ (plan : Plan). IsMachine (record c.self.inside { planner = plan })) (sym same) c.self.invariant

pub returns-in-Err : goal.returns-in-Err
returns-in-Err c =
    let slots : List SlotState = map (slot_state c.self.inside.planner.objects) c.self.inside.slots.items in
    let slot = own_pool c.self.inside c.self.invariant c.in-Some.pool c.in-Some.is in
    let some : 0 < c.args.length = omega (arith, c.if-size-eq0.false, c.get-size.ensures.value) in
    let left : length slots < c.self.inside.limit =
    omega (
      arith,
      c.if-number-self.false,
      c.len-number.ensures,
      c.self.invariant.within_limit,
      length-map c.self.inside.slots.items (slot_state c.self.inside.planner.objects),
    ) in
    let rule : PlanAllocates c.self.inside.planner c.args.length (Err c.in-Err.refusal) c.alloc.new.self =
    subst (λ (n : ℕ). PlanAllocates c.self.inside.planner n (Err c.in-Err.refusal) c.alloc.new.self) c.get-size.ensures.value
    (subst (λ (r : Result (ObjectId × Capability) Refusal). PlanAllocates c.self.inside.planner c.get-size.result r c.alloc.new.self)
    c.in-Err.is c.alloc.ensures.rule) in
    let same : c.alloc.new.self ≡ c.self.inside.planner =
    alloc-refused c.self.inside.planner c.alloc.new.self c.args.length c.in-Err.refusal rule in
    let at : List PlannedObject → State = λ objects.
    state_with c.self.inside.limit (map (slot_state objects) c.self.inside.slots.items) c.self.inside.pool c.alloc.new.self c.self.inside.object_slots.items in
    subst (λ (old : State). Allocates old c.args.length (Refused c.in-Err.refusal) (at c.alloc.new.self.objects)) c.self.view_is
    (subst (λ (os : List PlannedObject). Allocates (state_of c.self.inside) c.args.length (Refused c.in-Err.refusal) (at os))
    (ap (λ (p : Plan). p.objects) (sym same))
    (alloc-refuses c.self.inside.limit slots c.self.inside.pool c.self.inside.planner
    c.self.inside.object_slots.items c.self.invariant.each_has_slot c.self.invariant.planned c.self.invariant.reached
    c.in-Some.pool slot.slot c.in-Some.is slot.is_slot c.args.length some left c.in-Err.refusal c.alloc.new.self rule))

pub push_reserved-requires-2 : goal.push_reserved-requires-2
push_reserved-requires-2 c =
    omega (
      arith,
      fewer c.self.inside c.self.invariant,
      c.self.invariant.each_has_slot,
      c.self.invariant.within_limit,
      c.self.invariant.has_object_room,
    )

pub push_reserved-requires-3 : goal.push_reserved-requires-3
push_reserved-requires-3 c =
    omega (
      arith,
      fewer c.self.inside c.self.invariant,
      c.self.invariant.counted.as_many,
      c.if-number-self.false,
      c.len-number.ensures,
      c.self.invariant.within_limit,
      c.self.invariant.has_count_room,
    )

-- the pool's slot exists, so the number after it fits
pub overflow_add-pool : goal.overflow_add-pool
overflow_add-pool c =
    let within = IsSlot-within (own_pool c.self.inside c.self.invariant c.in-Some.pool c.in-Some.is).is_slot in
    let long = length-map c.self.inside.slots.items (slot_state c.self.inside.planner.objects) in
    omega (arith, within, long, c.self.invariant.within_limit, c.self.invariant.limit_fits)

-- the reply
abbrev told : goal.After-held_bytes → Reply
told c = Allocated c.in-Ok.made.0.0 (length c.self.inside.slots.items) c.word.result c.span.result c.held_bytes.result

-- the new slot
abbrev first : goal.After-held_bytes → Slot
first c = record { capability = c.in-Ok.made.1; after_parent = c.in-Some.pool + 1; owner = c.in-Ok.made.0.0 }

-- the slots of the state, as it was
abbrev was : goal.After-held_bytes → List SlotState
was c = map (slot_state c.self.inside.planner.objects) c.self.inside.slots.items

-- and with the new one
abbrev with_first : goal.After-held_bytes → List SlotState
with_first c = was c ++ tagged_slot c.in-Ok.made.1 (Some c.in-Some.pool) ∷ []

some_of : (c : goal.After-held_bytes) → 0 < c.args.length
some_of c = omega (arith, c.if-size-eq0.false, c.get-size.ensures.value)

left_of : (c : goal.After-held_bytes) → length (was c) < c.self.inside.limit
left_of c =
    omega (
      arith,
      c.if-number-self.false,
      c.len-number.ensures,
      c.self.invariant.within_limit,
      length-map c.self.inside.slots.items (slot_state c.self.inside.planner.objects),
    )

rule_of : (c : goal.After-held_bytes) → PlanAllocates c.self.inside.planner c.args.length (Ok c.in-Ok.made) c.alloc.new.self
rule_of c =
    subst (λ (n : ℕ). PlanAllocates c.self.inside.planner n (Ok c.in-Ok.made) c.alloc.new.self) c.get-size.ensures.value
    (subst (λ (r : Result (ObjectId × Capability) Refusal). PlanAllocates c.self.inside.planner c.get-size.result r c.alloc.new.self)
    c.in-Ok.is c.alloc.ensures.rule)

plans : (c : goal.After-held_bytes) → PlansObject c.self.inside.limit (was c) c.self.inside.pool c.self.inside.planner
    c.self.inside.object_slots.items c.self.invariant.each_has_slot c.self.invariant.planned c.self.invariant.reached
    c.in-Some.pool (own_pool c.self.inside c.self.invariant c.in-Some.pool c.in-Some.is).slot c.in-Some.is
    (own_pool c.self.inside c.self.invariant c.in-Some.pool c.in-Some.is).is_slot c.args.length (some_of c) (left_of c) c.in-Ok.made c.alloc.new.self
plans c =
    alloc-plans c.self.inside.limit (was c) c.self.inside.pool c.self.inside.planner
    c.self.inside.object_slots.items c.self.invariant.each_has_slot c.self.invariant.planned c.self.invariant.reached
    c.in-Some.pool (own_pool c.self.inside c.self.invariant c.in-Some.pool c.in-Some.is).slot c.in-Some.is
    (own_pool c.self.inside c.self.invariant c.in-Some.pool c.in-Some.is).is_slot c.args.length (some_of c) (left_of c) c.in-Ok.made c.alloc.new.self
    (rule_of c)

made : (c : goal.After-held_bytes) → AllocatesTo c.self.inside.limit (was c) c.self.inside.pool c.self.inside.planner
    c.self.inside.object_slots.items c.self.invariant.each_has_slot c.self.invariant.planned c.self.invariant.reached
    c.args.length (told c) (with_first c) c.alloc.new.self c.push_reserved-2.new.self.items
made c =
    let slot = own_pool c.self.inside c.self.invariant c.in-Some.pool c.in-Some.is in
    let long = length-map c.self.inside.slots.items (slot_state c.self.inside.planner.objects) in
    let number : length (was c) ≡ length c.self.inside.slots.items = omega (arith, long) in
    subst (λ (n : ℕ). AllocatesTo c.self.inside.limit (was c) c.self.inside.pool c.self.inside.planner
    c.self.inside.object_slots.items c.self.invariant.each_has_slot c.self.invariant.planned c.self.invariant.reached
    c.args.length (Allocated c.in-Ok.made.0.0 n c.word.result c.span.result c.held_bytes.result) (with_first c) c.alloc.new.self c.push_reserved-2.new.self.items) number
    (alloc-allocates c.self.inside.limit (was c) c.self.inside.pool c.self.inside.planner
    c.self.inside.object_slots.items c.self.invariant.each_has_slot c.self.invariant.planned c.self.invariant.reached
    c.in-Some.pool slot.slot c.in-Some.is slot.is_slot c.args.length (some_of c) (left_of c)
    c.in-Ok.made c.alloc.new.self c.word.result c.held_bytes.result c.span.result (with_first c) c.push_reserved-2.new.self.items
    (rule_of c) c.word.ensures.word c.span.ensures.span c.held_bytes.ensures.value refl
    (c.push_reserved-2.ensures.items ∙ ap (λ (n : ℕ). c.self.inside.object_slots.items ++ n ∷ []) (omega (arith, c.len-number.ensures, long))))

-- the kept slots are these
slots_are : (c : goal.After-held_bytes) → map (slot_state c.alloc.new.self.objects) c.push_reserved.new.self.items ≡ with_first c
slots_are c =
    let it = plans c in
    ap (λ (os : List PlannedObject). map (slot_state os) c.push_reserved.new.self.items) it.objects_are
    ∙ ap (λ (slots : List Slot). map (slot_state (c.self.inside.planner.objects ++ it.more ∷ [])) slots) c.push_reserved.ensures.items
    ∙ slots-first c.self.inside.planner.objects it.more c.self.inside.slots.items (first c)
    (Some c.in-Some.pool) (before-next c.in-Some.pool) (ap (λ (s : ObjectState). is_held s) it.live) it.is_number

-- no owner is past the objects
owner_fits : (c : goal.After-held_bytes) → (slot : ℕ)
    → slice_index (map (λ (s : Slot). s.owner) c.self.inside.slots.items) slot ≤ length c.self.inside.planner.objects
owner_fits c slot =
    let known = c.self.invariant.owned.fits slot in
    omega (arith, known, objects_in-length c.self.inside.planner.objects c.self.inside.object_slots.items c.self.invariant.each_has_slot)

-- the new state, with these slots
abbrev new_state : goal.After-held_bytes → List SlotState → State
new_state c slots = state_with c.self.inside.limit slots c.self.inside.pool c.alloc.new.self c.push_reserved-2.new.self.items

pub invariant_of-self-2 : goal.invariant_of-self-2
invariant_of-self-2 c =
    let it = plans c in
    let same = sym (slots_are c) in
    let owners : map (λ (s : Slot). s.owner) c.push_reserved.new.self.items
    ≡ map (λ (s : Slot). s.owner) c.self.inside.slots.items ++ (length c.self.inside.planner.objects + 1) ∷ [] =
    ap (λ (slots : List Slot). map (λ (s : Slot). s.owner) slots) c.push_reserved.ensures.items
    ∙ map_push (λ (s : Slot). s.owner) c.self.inside.slots.items (first c)
    ∙ ap (λ (n : ℕ). map (λ (s : Slot). s.owner) c.self.inside.slots.items ++ n ∷ []) it.is_number in
    let told_owned = (made c).tells_now (map (λ (s : Slot). s.owner) c.self.inside.slots.items) c.self.invariant.owned in
    let counts =
    CountsSlots-made c.self.inside.planner.objects c.self.inside.slots.items c.self.inside.slot_counts.items c.self.inside.freed_slots it.more (first c)
    c.self.invariant.counted it.live it.is_number (owner_fits c) in
    record {
      limit_fits = c.self.invariant.limit_fits;
      within_limit = omega (arith, c.push_reserved.ensures.len, c.if-number-self.false, c.len-number.ensures, c.self.invariant.within_limit);
      has_room = omega (arith, c.push_reserved.ensures.capacity, c.self.invariant.has_room);
      has_object_room = omega (arith, c.push_reserved-2.ensures.capacity, c.self.invariant.has_object_room);
      has_count_room = omega (arith, c.push_reserved-3.ensures.capacity, c.self.invariant.has_count_room);
      each_has_slot = (made c).as_many;
      planned = subst (λ (slots : List SlotState). c.alloc.new.self ≡ plan_of (new_state c slots)) same (made c).is_plan;
      owned =
          subst (λ (slots : List SlotState). TellsOwners (map (λ (s : Slot). s.owner) c.push_reserved.new.self.items) (new_state c slots)) same
          (subst (λ (list : List ℕ). TellsOwners list (new_state c (with_first c))) (sym owners) told_owned);
      counted =
          subst (λ (os : List PlannedObject). CountsSlots os c.push_reserved.new.self.items c.push_reserved-3.new.self.items c.self.inside.freed_slots)
          (sym it.objects_are)
          (subst (λ (slots : List Slot). CountsSlots (c.self.inside.planner.objects ++ it.more ∷ []) slots c.push_reserved-3.new.self.items c.self.inside.freed_slots)
          (sym c.push_reserved.ensures.items)
          (subst (λ (list : List ℕ). CountsSlots (c.self.inside.planner.objects ++ it.more ∷ []) (c.self.inside.slots.items ++ first c ∷ []) list c.self.inside.freed_slots)
          (sym c.push_reserved-3.ensures.items) counts));
      reached =
          subst (λ (slots : List SlotState). IsReached (new_state c slots)) same
          (IsReached-step (state_of c.self.inside) (new_state c (with_first c)) (Alloc c.args.length) (told c) c.self.invariant.reached (made c).makes);
    }

pub returns : goal.returns
returns c =
    let number : length c.self.inside.slots.items ≡ c.len-number.result = omega (arith, c.len-number.ensures) in
    subst (λ (slots : List SlotState). Allocates c.args.self.now c.args.length
    (Allocated c.in-Ok.made.0.0 c.len-number.result c.word.result c.span.result c.held_bytes.result) (new_state c slots)) (sym (slots_are c))
    (subst (λ (n : ℕ). Allocates c.args.self.now c.args.length (Allocated c.in-Ok.made.0.0 n c.word.result c.span.result c.held_bytes.result) (new_state c (with_first c))) number
    (subst (λ (old : State). Allocates old c.args.length (told c) (new_state c (with_first c))) c.self.view_is (made c).makes))
