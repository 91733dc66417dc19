-- The operations of a machine that has its pool, as changes of the objects of its plan.
use Rattle.std.proofs.Common.{ℕ, suc, ◌≡◌, ◌+◌, ◌-◌, ◌<◌, ◌≤◌, ◌^◌, List, [], ◌∷◌, ◌++◌, Option, Some, None, IsSome, ok_or, option_map, map, set, slice_set, length, slice_get, arith, refl, sym}
use Rattle.std.proofs.Common.{ap, subst, ◌∙◌, inl, inr}
use Rattle.std.proofs.lemmas.List.{map-set}
use Rattle.std.proofs.lemmas.Option.{slice_get-map}
use Rattle.cc_word.specs.declared.refusal.Refusal.TheVariants.{NoObject}
use Rattle.cc_bounds.specs.declared.align.Align.{Align}
use Rattle.cc_bounds.specs.declared.span.Span.{Span}
use Rattle.cc_bounds.specs.Span.{IsSpan, span_from}
use Rattle.cc_cap.specs.Capability.{Capability}
use Rattle.cc_placer.specs.Placement.{IsPlacement}
use Rattle.cc_plan.specs.declared.planned_object.ObjectState.TheVariants.{Live, Freed}
use Rattle.cc_plan.specs.PlannedObject.{PlannedObject}
use Rattle.cc_placer.specs.Align.{IsUnit, padded_size_for, rounded_up, unit_of}
use Rattle.cc_plan.specs.Plan.{Plan, capability_over, span_at, plan_swept as planned_swept}
use Rattle.cc_placer.proofs.AlignLemmas.{padded_for-enough}
use Rattle.cc_plan.proofs.HeldSpanLemmas.{as_freed}
use Rattle.cc_placer.proofs.UnitLemmas.{IsUnit-one}
use Rattle.cc_values.specs.declared.op.Op.TheVariants as op
use Rattle.cc_values.specs.declared.reply.Reply.{Reply}
use Rattle.cc_values.specs.declared.reply.Reply.TheVariants.{Allocated, Freed as ToldFreed, Swept as ToldSwept}
use Rattle.cc_machine.specs.declared.object.Object.{Object}
use Rattle.cc_machine.specs.State.{State, SlotState, IsSlot}
use Rattle.cc_machine.specs.Objects.{IsLiveObject, IsObject, IsPool, freed_count, held_bytes_of, held_spans}
use Rattle.cc_machine.specs.Planned.{plan_of, planned_object}
use Rattle.cc_machine.specs.Run.{IsReached}
use Rattle.cc_machine.specs.Step.{FreesObject, MakesObject, PlacesObject, Step}
use Rattle.cc_machine.proofs.ObjectLawLemmas.{KeepsObjects-reached}
use Rattle.cc_machine.proofs.ObjectLemmas.{IsObject-same}
use Rattle.cc_machine.proofs.PlanLemmas.{plan_of-with_object, planned-stay, planned-swept, with_planned}
use Rattle.cc_machine.proofs.RevokingLemmas.{RevokesFreed-same}
use Rattle.cc_machine.proofs.RunLemmas.{IsReached-step}
use Rattle.cc_machine.proofs.SlotLemmas.{IsSlot-same, IsSlot-stays, length-with_slot}
use Rattle.cc_machine.proofs.TreeLemmas.{Keeps-reached}
use Rattle.cc_laws.proofs.HoldLemmas.{new_object}

-- the objects of a state, with their bounds
abbrev pub objects_of : State → List PlannedObject
objects_of state = map (planned_object state.slots) state.objects

-- a state of this limit that has this pool, and has made this number of objects and no other slot since
pub record IsReady (pool : Span) (align : Align) (limit made : ℕ) (state : State) : Type 0 where
  pub reached : IsReached state
  pub number : ℕ
  pub slot : SlotState
  pub is_pool : IsPool state number slot
  pub pool_is : slot.capability.span ≡ pool
  pub align_is : state.align ≡ align
  pub limit_is : state.limit ≡ limit
  pub slots : length state.slots ≡ made + 3

-- two placements are one
placement_same : (pool : Span) (held : List Span) (size unit start other : ℕ) → IsPlacement pool held size unit start
    → IsPlacement pool held size unit other → start ≡ other
placement_same pool held size unit start other one also =
    let below = one.least other also.place in
    let above = also.least start one.place in
    omega (arith, below, above)

-- ---- an object is made

pub record IsAllocated (pool : Span) (align : Align) (limit made size : ℕ) (span : Span) (old : State) (reply : Reply)
    (new : State) : Type 0 where
  pub ready : IsReady pool align limit (made + 1) new
  pub objects : objects_of new ≡ objects_of old ++ new_object size span ∷ []
  pub number : ℕ
  pub slot : ℕ
  pub word : ℕ
  pub held : ℕ
  pub replied : reply ≡ Allocated number slot word span held

module _ (pool : Span) (align : Align) (limit made size start : ℕ) (old new : State) (reply : Reply)
    (ready : IsReady pool align limit made old) (fits : made + 3 < limit) (some : 0 < size)
    (placement : IsPlacement pool (held_spans old) (padded_size_for align size) (unit_of align size) start)
    (step : Step old (op.Alloc size) reply new) where
  -- an object in the pool has at most 2 ^ 64 bytes
  small : size ≤ 2 ^ 64
  small =
      let is_span : IsSpan ready.slot.capability.span =
      ((Keeps-reached old ready.reached).holds ready.number ready.slot ready.is_pool.is_slot).is_span in
      let top : ready.slot.capability.span.top ≡ pool.top = ap (λ (s : Span). s.top) ready.pool_is in
      let inside : start + padded_size_for align size ≤ pool.top = placement.place.in_pool.to_top in
      let enough = padded_for-enough align size in
      omega (arith, is_span.top_fits, top, inside, enough)

  unit-is : (unit : ℕ) → IsUnit old.align size unit → unit ≡ unit_of align size
  unit-is unit is =
      IsUnit-one align size unit small (subst (λ (a : Align). IsUnit a size unit) ready.align_is is)

  pool_same : (number : ℕ) (slot : SlotState) → IsPool old number slot → slot.capability.span ≡ pool
  pool_same number slot is =
      let one : Some number ≡ Some ready.number = sym is.is_pool ∙ ready.is_pool.is_pool in
      let same : number ≡ ready.number = some_same number ready.number one in
      let at : IsSlot old ready.number slot = subst (λ (n : ℕ). IsSlot old n slot) same is.is_slot in
      ap (λ (s : SlotState). s.capability.span) (IsSlot-same at ready.is_pool.is_slot) ∙ ready.pool_is
    where
      some_same : (one other : ℕ) → Some one ≡ Some other → one ≡ other
      some_same one other found = cc

  -- of the machine's own pool and unit
  placed : (own_pool : Span) (unit : ℕ) → own_pool ≡ pool → unit ≡ unit_of align size
      → IsPlacement own_pool (held_spans old) (rounded_up size unit) unit start
  placed own_pool unit pool_is unit_is =
      subst (λ (p : Span). IsPlacement p (held_spans old) (rounded_up size unit) unit start) (sym pool_is)
      (subst (λ (u : ℕ). IsPlacement pool (held_spans old) (rounded_up size u) u start) (sym unit_is) placement)

  by_place : (places : PlacesObject old size reply new) → IsAllocated pool align limit made size (span_from start (padded_size_for align size)) old reply new
  by_place places = elim places.placed [
    | inl makes ↦ is_made makes
    | inr none ↦ absurd (none.none start (placed places.slot.capability.span places.unit
        (pool_same places.pool places.slot places.is_pool) (unit-is places.unit places.is_unit)).place)
  ]
    where
      is_made : MakesObject old places.pool places.slot.capability size places.unit reply new
          → IsAllocated pool align limit made size (span_from start (padded_size_for align size)) old reply new
      is_made makes =
          let unit_is = unit-is places.unit places.is_unit in
          let pool_is = pool_same places.pool places.slot places.is_pool in
          let start_is : makes.start ≡ start =
          placement_same places.slot.capability.span (held_spans old) (rounded_up size places.unit) places.unit
          makes.start start makes.placement (placed places.slot.capability.span places.unit pool_is unit_is) in
          let span_is : span_at places.unit makes.start size ≡ span_from start (padded_size_for align size) =
          λ i. span_from (start_is i) (rounded_up size (unit_is i)) in
          let capability : Capability =
          capability_over (span_at places.unit makes.start size) places.slot.capability in
          let keeps = Keeps-reached old ready.reached in
          let keeps_objects = KeepsObjects-reached old ready.reached in
          let plan : plan_of new ≡ with_planned (plan_of old) capability.span size =
          ap plan_of makes.made ∙ plan_of-with_object old capability places.pool size keeps keeps_objects in
          let slots : length new.slots ≡ suc (length old.slots) =
          ap (λ (s : State). length s.slots) makes.made ∙ length-with_slot old capability places.pool in
          let reached : IsReached new = IsReached-step old new (op.Alloc size) reply ready.reached step in
          record {
            ready = record {
              reached = reached;
              number = ready.number;
              slot = ready.slot;
              is_pool = record {
                is_pool = ap (λ (s : State). s.pool) makes.made ∙ ready.is_pool.is_pool;
                is_slot = subst (λ (s : State). IsSlot s ready.number ready.slot) (sym makes.made)
                    (record { found = (IsSlot-stays old capability places.pool ready.is_pool.is_slot).found });
              };
              pool_is = ready.pool_is;
              align_is = ap (λ (s : State). s.align) makes.made ∙ ready.align_is;
              limit_is = ap (λ (s : State). s.limit) makes.made ∙ ready.limit_is;
              slots = omega (arith, slots, ready.slots);
            };
            objects = ap (λ (p : Plan). p.objects) plan
                ∙ ap (λ (s : Span). objects_of old ++ new_object size s ∷ []) span_is;
            number = length old.objects + 1;
            slot = length old.slots;
            word = makes.word;
            held = held_bytes_of new;
            replied = makes.replied
                ∙ ap (λ (s : Span). Allocated (length old.objects + 1) (length old.slots) makes.word s (held_bytes_of new))
                span_is;
          }

  pub alloc_step : IsAllocated pool align limit made size (span_from start (padded_size_for align size)) old reply new
  alloc_step = elim step [
    | inl has_pool ↦ elim has_pool.1 [
      | inl has_size ↦ elim has_size.1 [
        | inl has_slot ↦ by_place has_slot.1
        | inr full ↦ absurd (full.0 (omega (arith, fits, ready.slots, ready.limit_is)))
      ]
      | inr empty ↦ absurd (empty.0 some)
    ]
    | inr none ↦ absurd (none.0 (subst (λ (p : Option ℕ). IsSome p) (sym ready.is_pool.is_pool) refl))
  ]

-- ---- an object is freed

pub record IsFreed (pool : Span) (align : Align) (limit made position : ℕ) (object : PlannedObject) (old : State)
    (reply : Reply) (new : State) : Type 0 where
  pub ready : IsReady pool align limit made new
  pub objects : objects_of new ≡ set (objects_of old) position (as_freed object)
  pub held : ℕ
  pub replied : reply ≡ ToldFreed (suc position) 0 held

-- the object of a state that is one of its plan's
record IsPlannedAs (state : State) (position : ℕ) (object : PlannedObject) : Type 0 where
  own : Object
  at : slice_get state.objects position ≡ Some own
  is : planned_object state.slots own ≡ object

planned_at : (state : State) (position : ℕ) (object : PlannedObject)
    → slice_get (objects_of state) position ≡ Some object → IsPlannedAs state position object
planned_at state position object at =
    by_found (slice_get state.objects position) refl (sym (slice_get-map (planned_object state.slots) state.objects position) ∙ at)
  where
    by_found : (found : Option Object) → slice_get state.objects position ≡ found
        → option_map (planned_object state.slots) found ≡ Some object → IsPlannedAs state position object
    by_found None is mapped = absurd (never mapped)
      where
        never : None ≡ Some object → ⊥
        never e = cc
    by_found (Some own) is mapped = record { own = own; at = is; is = same (planned_object state.slots own) mapped }
      where
        same : (other : PlannedObject) → Some other ≡ Some object → other ≡ object
        same other e = cc

module _ (pool : Span) (align : Align) (limit made position : ℕ) (object : PlannedObject) (old new : State)
    (reply : Reply) (ready : IsReady pool align limit made old)
    (at : slice_get (objects_of old) position ≡ Some object) (live : object.state ≡ Live)
    (step : Step old (op.Free (suc position)) reply new) where
  there : IsPlannedAs old position object
  there = planned_at old position object at

  is_object : IsObject old (suc position) there.own
  is_object = record { found = ap (λ (o : Option Object). ok_or o NoObject) there.at }

  is_live : IsLiveObject old (suc position) there.own
  is_live = record {
    is_object = is_object;
    live = ap (λ (o : PlannedObject). o.state) there.is ∙ live;
  }

  by_free : FreesObject old (suc position) reply new → IsFreed pool align limit made position object old reply new
  by_free frees =
      let same : frees.object ≡ there.own = IsObject-same frees.is_live.is_object is_object in
      let back : suc position - 1 ≡ position = omega arith in
      let objects_are : new.objects ≡ set old.objects position (record (frees.object) { state = Freed }) =
      ap (λ (s : State). s.objects) frees.is_new
      ∙ ap (λ (n : ℕ). slice_set old.objects n (record (frees.object) { state = Freed })) back in
      let slots_are : new.slots ≡ old.slots = ap (λ (s : State). s.slots) frees.is_new in
      let freed : planned_object old.slots (record (frees.object) { state = Freed }) ≡ as_freed object =
      ap (λ (o : Object). planned_object old.slots (record o { state = Freed })) same
      ∙ ap as_freed there.is in
      record {
        ready = record {
          reached = IsReached-step old new (op.Free (suc position)) reply ready.reached step;
          number = ready.number;
          slot = ready.slot;
          is_pool = record {
            is_pool = ap (λ (s : State). s.pool) frees.is_new ∙ ready.is_pool.is_pool;
            is_slot = record {
              found = ap (λ (l : List SlotState). slice_get l ready.number) slots_are ∙ ready.is_pool.is_slot.found;
            };
          };
          pool_is = ready.pool_is;
          align_is = ap (λ (s : State). s.align) frees.is_new ∙ ready.align_is;
          limit_is = ap (λ (s : State). s.limit) frees.is_new ∙ ready.limit_is;
          slots = ap (λ (l : List SlotState). length l) slots_are ∙ ready.slots;
        };
        objects = (λ i. map (planned_object (slots_are i)) (objects_are i))
            ∙ map-set (planned_object old.slots) old.objects position (record (frees.object) { state = Freed })
            ∙ ap (λ (o : PlannedObject). set (objects_of old) position o) freed;
        held = held_bytes_of new;
        replied = frees.replied;
      }

  pub free_step : IsFreed pool align limit made position object old reply new
  free_step = elim step [
    | inl frees ↦ by_free frees
    | inr none ↦ absurd (none.0 there.own is_live)
  ]

-- ---- a sweep

pub record IsSwept (pool : Span) (align : Align) (limit made : ℕ) (old : State) (reply : Reply) (new : State) : Type 0 where
  pub ready : IsReady pool align limit made new
  pub objects : objects_of new ≡ map planned_swept (objects_of old)
  pub count : ℕ
  pub revoked : ℕ
  pub held : ℕ
  pub replied : reply ≡ ToldSwept count revoked held

pub sweep_step : (pool : Span) (align : Align) (limit made : ℕ) (old new : State) (reply : Reply)
    → IsReady pool align limit made old → Step old op.Sweep reply new
    → IsSwept pool align limit made old reply new
sweep_step pool align limit made old new reply ready step =
    let same = RevokesFreed-same old new step.revoked in
    let like = same.there ready.number ready.slot ready.is_pool.is_slot in
    let stay : map (planned_object new.slots) old.objects ≡ objects_of old =
    planned-stay old new (Keeps-reached old ready.reached) (KeepsObjects-reached old ready.reached) same.there in
    record {
      ready = record {
        reached = IsReached-step old new op.Sweep reply ready.reached step;
        number = ready.number;
        slot = like.other;
        is_pool = record { is_pool = step.pool_stays ∙ ready.is_pool.is_pool; is_slot = like.is_slot };
        pool_is = ap (λ (c : Capability). c.span) like.capability ∙ ready.pool_is;
        align_is = step.align_stays ∙ ready.align_is;
        limit_is = step.limit_stays ∙ ready.limit_is;
        slots = same.as_many ∙ ready.slots;
      };
      objects = ap (λ (os : List Object). map (planned_object new.slots) os) step.swept_all
          ∙ planned-swept new.slots old.objects
          ∙ ap (λ (os : List PlannedObject). map planned_swept os) stay;
      count = freed_count old.objects;
      revoked = step.more;
      held = held_bytes_of new;
      replied = step.replied;
    }
