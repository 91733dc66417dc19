-- The planner's calls, as a machine makes them, are the machine's steps.
use Rattle.std.proofs.Common.{ℕ, ◌≡◌, ◌⊎◌, ◌+◌, ◌<◌, ◌∙◌, List, [], ◌∷◌, ◌++◌, Option, Some, None, IsSome, IsNone, IfSome, Result, Ok, Err, MatchResult, length, map, sum_by, refl, sym, ap, subst}
use Rattle.std.proofs.Common.{inl, inr, arith}
use Rattle.std.proofs.lemmas.List.{length_push}
use Rattle.cc_word.specs.Refusal.{RefusedUnless}
use Rattle.cc_word.specs.declared.refusal.Refusal.{Refusal}
use Rattle.cc_word.specs.declared.refusal.Refusal.TheVariants.{NoRoom, Sealed, PoolAlreadySet}
use Rattle.cc_bounds.specs.declared.span.Span.{Span}
use Rattle.cc_bounds.specs.Span.{length_of}
use Rattle.cc_cap.specs.Capability.{Capability, IsUnsealed}
use Rattle.cc_cap.specs.Canonical.{IsWordOf}
use Rattle.cc_plan.specs.declared.planned_object.ObjectId.{ObjectId}
use Rattle.cc_plan.specs.declared.planned_object.ObjectState.TheVariants.{Live}
use Rattle.cc_plan.specs.PlannedObject.{PlannedObject}
use Rattle.cc_bounds.specs.declared.align.Align.{Align}
use Rattle.cc_placer.specs.Align.{rounded_up}
use Rattle.cc_placer.specs.Placement.{IsPlacement, HasNoPlace}
use Rattle.cc_plan.specs.Plan.{Plan, GivesPool, PlanAllocates, RefusesCall, PlanMakesObject, PlanHasNoRoom, plan_spans as planned_spans, plan_bytes as planned_bytes, capability_over, span_at}
use Rattle.cc_values.specs.declared.reply.Reply.{Reply}
use Rattle.cc_values.specs.declared.reply.Reply.TheVariants.{PoolSet, Allocated, Refused}
use Rattle.cc_machine.specs.State.{State, SlotState, tagged_slot, IsSlot}
use Rattle.cc_machine.specs.Objects.{held_spans, held_bytes_of, with_object}
use Rattle.cc_machine.specs.Step.{usable_slot, Refuses, SetsPool, Allocates}
use Rattle.cc_machine.specs.Run.{IsReached}
use Rattle.cc_machine.specs.Owners.{TellsOwners}
use Rattle.cc_machine.specs.Machine.{objects_in}
use Rattle.cc_machine.specs.Planned.{pool_capability, planned_object, plan_of}
use Rattle.cc_machine.proofs.SlotLemmas.{IsSlot-within}
use Rattle.cc_machine.proofs.StepLemmas.{usable-is}
use Rattle.cc_machine.proofs.OwnerLemmas.{TellsOwners-first}
use Rattle.cc_machine.proofs.TreeLemmas.{Keeps, Keeps-reached}
use Rattle.cc_machine.proofs.ObjectTreeLemmas.{KeepsObjects}
use Rattle.cc_machine.proofs.ObjectLawLemmas.{KeepsObjects-reached}
use Rattle.cc_machine.proofs.PlanLemmas.{objects_in-length, objects_in-push, pool_capability-is, pool_capability-none, held-planned, plan_of-with_object, with_planned, with_own}

-- the state of these parts
abbrev pub state_with : ℕ → List SlotState → Option ℕ → Plan → List ℕ → State
state_with limit slots pool plan own = record {
  limit = limit;
  slots = slots;
  pool = pool;
  align = plan.align;
  objects = objects_in plan.objects own;
}

-- a call of the planner that is not refused has passed its first check
plan-passes : {A condition rest : Type 0} {refusal : Refusal} {old new : Plan} {answer : A} → RefusedUnless condition (RefusesCall refusal old (Ok answer) new) rest
    → condition × rest
plan-passes (inl holds) = holds
plan-passes (inr fails) = let e = fails.1 in cc

-- if the pool is refused, the plan stays
pub give-refused : (old new : Plan) (pool : Capability) (align : Align) (refusal : Refusal) → GivesPool old pool align (Err refusal) new → new ≡ old
give-refused old new pool align refusal (inr sealed) = sealed.1.1
give-refused old new pool align refusal (inl (_, inr given)) = given.1.1
give-refused old new pool align refusal (inl (_, inl (_, (answer, _)))) = let e = answer in cc

-- if an object is refused, the plan stays
pub alloc-refused : (old new : Plan) (size : ℕ) (refusal : Refusal) → PlanAllocates old size (Err refusal) new → new ≡ old
alloc-refused old new size refusal (inr none) = none.1.1
alloc-refused old new size refusal (inl (_, inr nothing)) = nothing.1.1
alloc-refused old new size refusal (inl (_, inl (_, inr full))) = full.1.1
alloc-refused old new size refusal (inl (some, inl (_, inl (_, decided)))) = by_pool old.pool some decided
  where
    by_pool : (pool : Option Capability) → IsSome pool
        → IfSome pool (λ cap. PlanMakesObject old cap size (Err refusal) new ⊎ PlanHasNoRoom old cap size (Err refusal) new) → new ≡ old
    by_pool None some decided = let e = some in cc
    by_pool (Some above) some (inl made) = let e = made.answer in cc
    by_pool (Some above) some (inr none) = none.stays

-- setting the pool, of what was found
abbrev SetsPoolFrom : Result SlotState Refusal → State → ℕ → Align → Reply → State → Type 0
SetsPoolFrom found old number align reply new =
    MatchResult found (λ slot.
    RefusedUnless (IsUnsealed slot.capability) (Refuses Sealed old reply new) (
    RefusedUnless (IsNone old.pool) (Refuses PoolAlreadySet old reply new) (
    (reply ≡ PoolSet number slot.capability.span align) × (new ≡ record old { pool = Some number; align = align }))))
    (λ refusal. Refuses refusal old reply new)

-- a machine's parts, of which the planner knows what the state says
module _ (limit : ℕ) (slots : List SlotState) (pool : Option ℕ) (plan : Plan) (own : List ℕ)
    (each_has_slot : length own ≡ length plan.objects) (planned : plan ≡ plan_of (state_with limit slots pool plan own))
    (reached : IsReached (state_with limit slots pool plan own)) where
  abbrev state : State
  state = state_with limit slots pool plan own

  keeps : Keeps state
  keeps = Keeps-reached state reached

  objects : KeepsObjects state
  objects = KeepsObjects-reached state reached

  -- the planner has the slot's pool
  pool-of : (number : ℕ) (slot : SlotState) → pool ≡ Some number → IsSlot state number slot → plan.pool ≡ Some slot.capability
  pool-of number slot is at = ap (λ (p : Plan). p.pool) planned ∙ pool_capability-is state number slot is at

  -- ---- giving the pool

  pub record SetsPoolTo (number : ℕ) (align : Align) (reply : Reply) (new_plan : Plan) : Type 0 where
    pub sets : SetsPool state number align reply (state_with limit slots (Some number) new_plan own)
    pub is_plan : new_plan ≡ plan_of (state_with limit slots (Some number) new_plan own)
    pub as_many : length own ≡ length new_plan.objects
    pub same_objects : new_plan.objects ≡ plan.objects
    pub same_state : state_with limit slots (Some number) new_plan own ≡ record state { pool = Some number; align = align }

  pub give-sets : (number : ℕ) (align : Align) (slot : SlotState) (span : Span) (answer : Unit {0}) (new_plan : Plan) → usable_slot slots number ≡ Ok slot
      → span ≡ slot.capability.span → GivesPool plan slot.capability align (Ok answer) new_plan
      → SetsPoolTo number align (PoolSet number span align) new_plan
  give-sets number align slot span answer new_plan usable is_span given =
      let first = plan-passes given in
      let second = plan-passes first.1 in
      let is_new : new_plan ≡ record plan { pool = Some slot.capability; align = align } = second.1.1 in
      let new : State = state_with limit slots (Some number) new_plan own in
      let same : new ≡ record state { pool = Some number; align = align } = ap (λ (p : Plan). state_with limit slots (Some number) p own) is_new in
      let none_planned : IsNone (pool_capability state) = subst (λ (p : Plan). IsNone p.pool) planned second.0 in
      let none : IsNone state.pool = pool_capability-none state keeps none_planned in
      let at : IsSlot (record state { pool = Some number; align = align }) number slot = record { found = usable-is slots number slot usable } in
      let is_pool : pool_capability (record state { pool = Some number; align = align }) ≡ Some slot.capability =
      pool_capability-is (record state { pool = Some number; align = align }) number slot refl at in
      let replied : PoolSet number span align ≡ PoolSet number slot.capability.span align = ap (λ (s : Span). PoolSet number s align) is_span in
      let limit_is : plan.limit ≡ limit = ap (λ (p : Plan). p.limit) planned in
      let objects_is : plan.objects ≡ map (planned_object slots) state.objects = ap (λ (p : Plan). p.objects) planned in
      let plan_is : record plan { pool = Some slot.capability; align = align } ≡ plan_of (record state { pool = Some number; align = align }) =
      λ i. record { limit = limit_is i; pool = sym is_pool i; align = align; objects = objects_is i } in
      record {
        sets =
            subst (λ (found : Result SlotState Refusal). SetsPoolFrom found state number align (PoolSet number span align) new) (sym usable)
            (inl (first.0, inl (none, (replied, same))));
        is_plan = is_new ∙ plan_is ∙ ap plan_of (sym same);
        as_many = each_has_slot ∙ ap (λ (p : Plan). length p.objects) (sym is_new);
        same_objects = ap (λ (p : Plan). p.objects) is_new;
        same_state = same;
      }

  -- ---- making an object

  pub record AllocatesTo (size : ℕ) (reply : Reply) (new_slots : List SlotState) (new_plan : Plan) (new_own : List ℕ) : Type 0 where
    pub makes : Allocates state size reply (state_with limit new_slots pool new_plan new_own)
    pub is_plan : new_plan ≡ plan_of (state_with limit new_slots pool new_plan new_own)
    pub as_many : length new_own ≡ length new_plan.objects
    pub tells_now :
        (owners : List ℕ) → TellsOwners owners state
        → TellsOwners (owners ++ (length plan.objects + 1) ∷ []) (state_with limit new_slots pool new_plan new_own)

  limit-of : plan.limit ≡ limit
  limit-of = ap (λ (p : Plan). p.limit) planned

  -- as many objects as the planner's
  count-of : length state.objects ≡ length plan.objects
  count-of = objects_in-length plan.objects own each_has_slot

  module _ (number : ℕ) (slot : SlotState) (is_pool : pool ≡ Some number) (at : IsSlot state number slot) (size : ℕ) (some : 0 < size)
      (left : length slots < limit) where
    some-pool : IsSome state.pool
    some-pool = subst (λ (p : Option ℕ). IsSome p) (sym is_pool) refl

    -- the planner has capacity for one more object
    room : length plan.objects < plan.limit
    room = omega (arith, objects.fewer, count-of, limit-of, left)

    alloc-makes : (made : ObjectId × Capability) (new_plan : Plan) (word held : ℕ) (span : Span) (new_slots : List SlotState) (new_own : List ℕ)
        → PlanMakesObject plan slot.capability size (Ok made) new_plan → IsWordOf made.1 word → span ≡ made.1.span → held ≡ planned_bytes new_plan.objects
        → new_slots ≡ slots ++ tagged_slot made.1 (Some number) ∷ [] → new_own ≡ own ++ length slots ∷ []
        → AllocatesTo size (Allocated made.0.0 (length slots) word span held) new_slots new_plan new_own
    alloc-makes made new_plan word held span new_slots new_own m is_word is_span is_held slots_are own_is =
        let bytes : Span = span_at m.unit m.start size in
        let cap : Capability = capability_over bytes slot.capability in
        let answer = m.answer in
        let is_made : made ≡ (record { 0 = length plan.objects + 1 }, cap) = cc in
        let is_cap : made.1 ≡ cap = ap (λ (p : ObjectId × Capability). p.1) is_made in
        let is_number : made.0.0 ≡ length plan.objects + 1 = ap (λ (p : ObjectId × Capability). p.0.0) is_made in
        let new : State = state_with limit new_slots pool new_plan new_own in
        let all_slots : new_slots ≡ slots ++ tagged_slot cap (Some number) ∷ [] =
        slots_are ∙ ap (λ (c : Capability). slots ++ tagged_slot c (Some number) ∷ []) is_cap in
        let q : PlannedObject = record { size = size; span = bytes; state = Live } in
        let all_objects : objects_in new_plan.objects new_own ≡ state.objects ++ with_own q (length slots) ∷ [] =
        ap (λ (p : Plan). objects_in p.objects new_own) m.made
        ∙ ap (λ (o : List ℕ). objects_in (plan.objects ++ q ∷ []) o) own_is
        ∙ objects_in-push plan.objects own q (length slots) each_has_slot in
        let same_align : new_plan.align ≡ plan.align = ap (λ (p : Plan). p.align) m.made in
        let same : new ≡ with_object state cap number size =
        λ i. record { limit = limit; slots = all_slots i; pool = pool; align = same_align i; objects = all_objects i } in
        let is_plan : new_plan ≡ plan_of new =
        m.made ∙ ap (λ (p : Plan). with_planned p bytes size) planned
        ∙ sym (plan_of-with_object state cap number size keeps objects) ∙ ap plan_of (sym same) in
        let held_is : held ≡ held_bytes_of new =
        is_held ∙ ap (λ (spans : List Span). sum_by length_of spans) (held-planned new_plan new is_plan) in
        let span_is : span ≡ bytes = is_span ∙ ap (λ (c : Capability). c.span) is_cap in
        let count : made.0.0 ≡ length state.objects + 1 = omega (arith, is_number, count-of) in
        let spans : planned_spans plan.objects ≡ held_spans state = held-planned plan state planned in
        record {
          makes = inl (
            some-pool,
            inl (
              some,
              inl (
                left,
                record {
                  pool = number;
                  slot = slot;
                  is_pool = record { is_pool = is_pool; is_slot = at };
                  unit = m.unit;
                  is_unit = m.is_unit;
                  placed = inl (record {
                    start = m.start;
                    placement =
                        subst (λ (h : List Span). IsPlacement slot.capability.span h (rounded_up size m.unit) m.unit m.start) spans m.placement;
                    word = word;
                    is_word = subst (λ (c : Capability). IsWordOf c word) is_cap is_word;
                    made = same;
                    replied = λ i. Allocated (count i) (length slots) word (span_is i) (held_is i);
                  });
                },
              ),
            ),
          );
          is_plan = is_plan;
          as_many =
              ap (λ (o : List ℕ). length o) own_is ∙ length_push own (length slots) ∙ ap (λ (n : ℕ). n + 1) each_has_slot
              ∙ sym (ap (λ (p : Plan). length p.objects) m.made ∙ length_push plan.objects q);
          tells_now = λ owners tells.
              subst (λ (s : State). TellsOwners (owners ++ (length plan.objects + 1) ∷ []) s) (sym same)
              (TellsOwners-first owners state cap number tells (IsSlot-within at) keeps.parent_first objects is_pool size (length plan.objects + 1)
              (omega (arith, count-of)));
        }

    -- what the planner decides of its pool
    decides : (answer : Result (ObjectId × Capability) Refusal) (new_plan : Plan) → PlanAllocates plan size answer new_plan
        → PlanMakesObject plan slot.capability size answer new_plan ⊎ PlanHasNoRoom plan slot.capability size answer new_plan
    decides answer new_plan (inr none) =
        let e = pool-of number slot is_pool at in
        absurd (none.0 (subst (λ (p : Option Capability). IsSome p) (sym e) refl))
    decides answer new_plan (inl (_, inr nothing)) = absurd (nothing.0 some)
    decides answer new_plan (inl (_, inl (_, inr full))) = absurd (full.0 room)
    decides answer new_plan (inl (_, inl (_, inl (_, decided)))) =
        subst (λ (p : Option Capability). IfSome p (λ cap. PlanMakesObject plan cap size answer new_plan ⊎ PlanHasNoRoom plan cap size answer new_plan))
        (pool-of number slot is_pool at) decided

    -- the object that the planner made
    pub record PlansObject (made : ObjectId × Capability) (new_plan : Plan) : Type 0 where
      pub is_number : made.0.0 ≡ length plan.objects + 1
      pub more : PlannedObject
      pub live : more.state ≡ Live
      pub objects_are : new_plan.objects ≡ plan.objects ++ more ∷ []

    pub alloc-plans : (made : ObjectId × Capability) (new_plan : Plan) → PlanAllocates plan size (Ok made) new_plan → PlansObject made new_plan
    alloc-plans made new_plan allocates = elim (decides (Ok made) new_plan allocates) [
      | inl m ↦
          let answer = m.answer in
          let is_made : made ≡ (record { 0 = length plan.objects + 1 }, capability_over (span_at m.unit m.start size) slot.capability) = cc in
          record {
            is_number = ap (λ (p : ObjectId × Capability). p.0.0) is_made;
            more = record { size = size; span = span_at m.unit m.start size; state = Live };
            live = refl;
            objects_are = ap (λ (p : Plan). p.objects) m.made;
          }
      | inr none ↦ let e = none.answer in cc
    ]

    pub alloc-allocates : (made : ObjectId × Capability) (new_plan : Plan) (word held : ℕ) (span : Span) (new_slots : List SlotState) (new_own : List ℕ)
        → PlanAllocates plan size (Ok made) new_plan → IsWordOf made.1 word → span ≡ made.1.span → held ≡ planned_bytes new_plan.objects
        → new_slots ≡ slots ++ tagged_slot made.1 (Some number) ∷ [] → new_own ≡ own ++ length slots ∷ []
        → AllocatesTo size (Allocated made.0.0 (length slots) word span held) new_slots new_plan new_own
    alloc-allocates made new_plan word held span new_slots new_own allocates is_word is_span is_held slots_are own_is =
        elim (decides (Ok made) new_plan allocates) [
          | inl m ↦ alloc-makes made new_plan word held span new_slots new_own m is_word is_span is_held slots_are own_is
          | inr none ↦ let e = none.answer in cc
        ]

    pub alloc-refuses : (refusal : Refusal) (new_plan : Plan) → PlanAllocates plan size (Err refusal) new_plan
        → Allocates state size (Refused refusal) (state_with limit slots pool new_plan own)
    alloc-refuses refusal new_plan allocates = elim (decides (Err refusal) new_plan allocates) [
      | inl m ↦ let e = m.answer in cc
      | inr none ↦
          let answer = none.answer in
          let is_refusal : Refused refusal ≡ Refused NoRoom = (let e : refusal ≡ NoRoom = cc in ap (λ (r : Refusal). Refused r) e) in
          inl (
            some-pool,
            inl (
              some,
              inl (
                left,
                record {
                  pool = number;
                  slot = slot;
                  is_pool = record { is_pool = is_pool; is_slot = at };
                  unit = none.unit;
                  is_unit = none.is_unit;
                  placed = inr (record {
                    none =
                        subst (λ (h : List Span). HasNoPlace slot.capability.span h (rounded_up size none.unit) none.unit)
                        (held-planned plan state planned) none.none;
                    refused = (is_refusal, ap (λ (p : Plan). state_with limit slots pool p own) none.stays);
                  });
                },
              ),
            ),
          )
    ]
