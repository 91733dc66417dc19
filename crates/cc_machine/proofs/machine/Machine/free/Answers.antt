use Rattle.std.proofs.Common.{◌≡◌, ◌+◌, ◌-◌, ◌<◌, ◌∙◌, ℕ, List, length, map, set, slice_index, Result, Ok, sym, ap, subst, inl, inr, arith}
use Rattle.std.proofs.lemmas.Grind.{get_or_default_zero}
use Rattle.std.proofs.lemmas.Option.{slice_get_within}
use Rattle.cc_word.specs.declared.refusal.Refusal.{Refusal}
use Rattle.cc_plan.specs.declared.planned_object.ObjectState.TheVariants.{Freed}
use Rattle.cc_plan.specs.PlannedObject.{PlannedObject}
use Rattle.cc_plan.specs.Plan.{Plan, PlanFrees}
use Rattle.cc_values.specs.declared.op.Op.TheVariants.{Free}
use Rattle.cc_machine.specs.declared.slot.Slot.{Slot}
use Rattle.cc_values.specs.declared.reply.Reply.{Reply}
use Rattle.cc_values.specs.declared.reply.Reply.TheVariants.{Refused, Freed as ToldFreed}
use Rattle.cc_machine.specs.State.{State, SlotState}
use Rattle.cc_machine.specs.Objects.{IsLiveObject}
use Rattle.cc_machine.specs.Step.{Frees}
use Rattle.cc_machine.specs.Run.{IsReached}
use Rattle.cc_machine.specs.Owners.{slot_state, CountsSlots, TellsOwners}
use Rattle.cc_machine.specs.Machine.{IsMachine, state_of}
use Rattle.cc_machine.specs.Planned.{plan_of}
use Rattle.cc_machine.proofs.RunLemmas.{IsReached-step}
use Rattle.cc_machine.proofs.KeptSlotLemmas.{CountsSlots-freed, freed-within, slots-freed}
use Rattle.cc_machine.proofs.ActionLemmas.{state_with}
use Rattle.cc_machine.proofs.FreeLemmas.{FreesTo, IsFreed, IsRefusedFree, free-frees, free-refused, is-freed, numbered, planned-live, some-number}
use Rattle.cc_machine.proofs.machine.Machine.free.Goals as goal

-- ---- a refusal

refused : (c : goal.In-Err) → IsRefusedFree c.self.inside.planner c.args.object c.in-Err.refusal c.free.new.self
refused c =
    free-refused c.self.inside.planner c.args.object c.in-Err.refusal c.free.new.self
    (subst (λ (r : Result (Unit {0}) Refusal). PlanFrees c.self.inside.planner c.args.object r c.free.new.self) c.in-Err.is c.free.ensures.rule)

pub invariant_of-self : goal.invariant_of-self
invariant_of-self c = subst (λ (plan : Plan). IsMachine (record c.self.inside { planner = plan })) (sym (refused c).stays) c.self.invariant

pub returns-in-Err : goal.returns-in-Err
returns-in-Err c =
    let same : state_of (record c.self.inside { planner = c.free.new.self }) ≡ c.args.self.now =
    ap (λ (plan : Plan). state_of (record c.self.inside { planner = plan })) (refused c).stays ∙ c.self.view_is in
    inr (
      λ object is.
          let state : state_of c.self.inside ≡ c.args.self.now = c.self.view_is in
          let there = subst (λ (s : State). IsLiveObject s c.args.object object) (sym state) is in
          (refused c).not_live
          (planned-live c.self.inside.planner.objects c.self.inside.object_slots.items c.self.invariant.each_has_slot c.args.object object
          there.is_object.found there.live),
      (ap (λ (r : Refusal). Refused r) (refused c).is_refusal, same),
    )

-- ---- a live object

frees_plan : (plan : Plan) (number : ℕ) (result : Result (Unit {0}) Refusal) (answer : Unit {0}) (new_plan : Plan) → result ≡ Ok answer
    → PlanFrees plan number result new_plan → PlanFrees plan number (Ok answer) new_plan
frees_plan plan number result answer new_plan is frees =
    subst (λ (r : Result (Unit {0}) Refusal). PlanFrees plan number r new_plan) is frees

-- the counts with it
counts : (plan : Plan) (number : ℕ) (new_plan : Plan) (slots : List Slot) (list : List ℕ) (freed : ℕ) → IsFreed plan number new_plan
    → CountsSlots plan.objects slots list freed → CountsSlots new_plan.objects slots list (freed + slice_index list number)
counts plan number new_plan slots list freed it told =
    let now =
    CountsSlots-freed plan.objects slots list freed (number - 1) it.planned told (numbered plan.objects number it.planned it.found) it.live in
    subst (λ (os : List PlannedObject). CountsSlots os slots list (freed + slice_index list number)) (sym (ap (λ (p : Plan). p.objects) it.is_new))
    (subst (λ (n : ℕ). CountsSlots (set plan.objects (number - 1) (record it.planned { state = Freed })) slots list (freed + slice_index list n))
    (sym (some-number plan.objects number it.planned it.found)) now)

-- the number has a count
within : (plan : Plan) (number : ℕ) (new_plan : Plan) (slots : List Slot) (list : List ℕ) (freed : ℕ) → IsFreed plan number new_plan
    → CountsSlots plan.objects slots list freed → number < length list
within plan number new_plan slots list freed it told =
    let known = slice_get_within plan.objects (number - 1) it.planned (numbered plan.objects number it.planned it.found) in
    omega (arith, known, told.as_many)

pub index-requires : goal.index-requires
index-requires c =
    let it =
    is-freed c.self.inside.planner c.args.object c.in_default.field-0 c.free.new.self
    (frees_plan c.self.inside.planner c.args.object c.free.result c.in_default.field-0 c.free.new.self c.in_default.is c.free.ensures.rule) in
    omega (
      arith,
      within c.self.inside.planner c.args.object c.free.new.self c.self.inside.slots.items c.self.inside.slot_counts.items c.self.inside.freed_slots it
          c.self.invariant.counted,
    )

pub overflow_add-self : goal.overflow_add-self
overflow_add-self c =
    let it =
    is-freed c.self.inside.planner c.args.object c.in_default.field-0 c.free.new.self
    (frees_plan c.self.inside.planner c.args.object c.free.result c.in_default.field-0 c.free.new.self c.in_default.is c.free.ensures.rule) in
    let told =
    counts c.self.inside.planner c.args.object c.free.new.self c.self.inside.slots.items c.self.inside.slot_counts.items c.self.inside.freed_slots it
    c.self.invariant.counted in
    let few = freed-within c.free.new.self.objects c.self.inside.slots.items c.self.inside.slot_counts.items _ told in
    let there =
    within c.self.inside.planner c.args.object c.free.new.self c.self.inside.slots.items c.self.inside.slot_counts.items c.self.inside.freed_slots it
    c.self.invariant.counted in
    let is = c.index.ensures ∙ get_or_default_zero c.self.inside.slot_counts.items c.args.object c.index.result.now there in
    omega (arith, few, is, c.self.invariant.within_limit, c.self.invariant.limit_fits)

plan_freed : (c : goal.After-held_bytes) → PlanFrees c.self.inside.planner c.args.object (Ok c.in_default.field-0) c.free.new.self
plan_freed c = frees_plan c.self.inside.planner c.args.object c.free.result c.in_default.field-0 c.free.new.self c.in_default.is c.free.ensures.rule

freed_one : (c : goal.After-held_bytes) → IsFreed c.self.inside.planner c.args.object c.free.new.self
freed_one c = is-freed c.self.inside.planner c.args.object c.in_default.field-0 c.free.new.self (plan_freed c)

-- the state's slots as they were
abbrev was : goal.After-held_bytes → List SlotState
was c = map (slot_state c.self.inside.planner.objects) c.self.inside.slots.items

freed : (c : goal.After-held_bytes) → FreesTo c.self.inside.limit (was c) c.self.inside.pool c.self.inside.planner
    c.self.inside.object_slots.items c.self.invariant.each_has_slot c.self.invariant.planned c.args.object c.in_default.field-0 c.free.new.self
    (plan_freed c) c.held_bytes.result
freed c =
    free-frees c.self.inside.limit (was c) c.self.inside.pool c.self.inside.planner
    c.self.inside.object_slots.items c.self.invariant.each_has_slot c.self.invariant.planned c.args.object c.in_default.field-0 c.free.new.self
    (plan_freed c) c.held_bytes.result c.held_bytes.ensures.value

-- and as they are
slots_are : (c : goal.After-held_bytes) → map (slot_state c.free.new.self.objects) c.self.inside.slots.items ≡ was c
slots_are c =
    let it = freed_one c in
    ap (λ (p : Plan). map (slot_state p.objects) c.self.inside.slots.items) it.is_new
    ∙ slots-freed c.self.inside.planner.objects (c.args.object - 1) it.planned
    (numbered c.self.inside.planner.objects c.args.object it.planned it.found) it.live c.self.inside.slots.items

-- the new state, with these slots
abbrev new_state : goal.After-held_bytes → List SlotState → State
new_state c slots = state_with c.self.inside.limit slots c.self.inside.pool c.free.new.self c.self.inside.object_slots.items

pub invariant_of-self-2 : goal.invariant_of-self-2
invariant_of-self-2 c =
    let same = sym (slots_are c) in
    let it = freed_one c in
    let told =
    counts c.self.inside.planner c.args.object c.free.new.self c.self.inside.slots.items c.self.inside.slot_counts.items c.self.inside.freed_slots it
    c.self.invariant.counted in
    let there =
    within c.self.inside.planner c.args.object c.free.new.self c.self.inside.slots.items c.self.inside.slot_counts.items c.self.inside.freed_slots it
    c.self.invariant.counted in
    let is = c.index.ensures ∙ get_or_default_zero c.self.inside.slot_counts.items c.args.object c.index.result.now there in
    record {
      limit_fits = c.self.invariant.limit_fits;
      within_limit = c.self.invariant.within_limit;
      has_room = c.self.invariant.has_room;
      has_object_room = c.self.invariant.has_object_room;
      has_count_room = c.self.invariant.has_count_room;
      each_has_slot = (freed c).as_many;
      planned = subst (λ (slots : List SlotState). c.free.new.self ≡ plan_of (new_state c slots)) same (freed c).is_plan;
      owned =
          subst (λ (slots : List SlotState). TellsOwners (map (λ (s : Slot). s.owner) c.self.inside.slots.items) (new_state c slots)) same
          ((freed c).tells_now (map (λ (s : Slot). s.owner) c.self.inside.slots.items) c.self.invariant.owned);
      counted =
          subst (λ (n : ℕ). CountsSlots c.free.new.self.objects c.self.inside.slots.items c.self.inside.slot_counts.items (c.self.inside.freed_slots + n))
          (sym is) told;
      reached =
          subst (λ (slots : List SlotState). IsReached (new_state c slots)) same
          (IsReached-step (state_of c.self.inside) (new_state c (was c)) (Free c.args.object) (ToldFreed c.args.object 0 c.held_bytes.result)
          c.self.invariant.reached (inl (freed c).marks));
    }

pub returns : goal.returns
returns c =
    let reply : Reply = ToldFreed c.args.object 0 c.held_bytes.result in
    subst (λ (slots : List SlotState). Frees c.args.self.now c.args.object reply (new_state c slots)) (sym (slots_are c))
    (subst (λ (old : State). Frees old c.args.object reply (new_state c (was c))) c.self.view_is (inl (freed c).marks))
