-- Objects lie within the pool, and the held ones have at most as many bytes as the pool.
use Rattle.std.proofs.Common.{ℕ, suc, ◌≡◌, ◌<◌, ◌≤◌, ◌∙◌, IsTrue, List, Some, None, length, map, refl, sym, ap, subst, inl, arith}
use Rattle.std.specs.Prelude.{All, AllPairs, Option, get_or, ok_or, option_and_then, option_map, slice_get, sum_by, unwrap_or}
use Rattle.std.proofs.Math.ListN.{get_or-map}
use Rattle.std.proofs.lemmas.List.{get_or_default, length-map}
use Rattle.std.proofs.lemmas.Option.{slice_get-get_or}
use Rattle.cc_word.specs.declared.refusal.Refusal.TheVariants.{NoObject}
use Rattle.cc_bounds.specs.declared.span.Span.{Span}
use Rattle.cc_bounds.specs.Span.{IsWithin, SharesByte, from_zero, length_of}
use Rattle.cc_cap.specs.Capability.{Capability}
use Rattle.cc_plan.specs.declared.planned_object.ObjectState.TheVariants.{Live}
use Rattle.cc_plan.specs.PlannedObject.{PlannedObject}
use Rattle.cc_plan.specs.Plan.{is_held, plan_bytes as planned_bytes}
use Rattle.cc_plan.proofs.PlannerLemmas.{AreApart}
use Rattle.cc_laws.proofs.PackingLemmas.{held_bytes-pool}
use Rattle.cc_machine.specs.declared.object.Object.{Object}
use Rattle.cc_machine.specs.State.{State, SlotState, IsSlot}
use Rattle.cc_machine.specs.Objects.{IsObject, IsHeldObject, IsPool, held_bytes_of}
use Rattle.cc_machine.specs.ObjectLaws.{KeepsObjectLaws}
use Rattle.cc_machine.specs.Planned.{planned_object, plan_of, pool_capability}
use Rattle.cc_machine.specs.Run.{IsReached}
use Rattle.cc_machine.proofs.ObjectLemmas.{span_of_slot-is}
use Rattle.cc_machine.proofs.TreeLemmas.{Keeps, Keeps-reached}
use Rattle.cc_machine.proofs.PlanLemmas.{held-planned, pool_capability-is}
use Rattle.cc_machine.proofs.ObjectLawLemmas.{KeepsObjectLaws-reached}

-- the objects have bytes, lie in the pool, and share no byte while they are held
pub record ArePlaced (pool : Span) (objects : List PlannedObject) : Type 0 where
  pub in_order : pool.base ≤ pool.top
  pub some : All (λ object. object.span.base < object.span.top) objects
  pub within : All (λ object. IsWithin object.span pool) objects
  pub apart : AllPairs AreApart objects

module _ (state : State) (keeps : Keeps state) (laws : KeepsObjectLaws state) where
  -- an object's slot lies within the pool's
  pub object-in_pool : (pool number : ℕ) (slot own : SlotState) (object : Object) → IsPool state pool slot → IsObject state number object
      → IsSlot state object.slot own → IsWithin own.capability.span slot.capability.span
  object-in_pool pool number slot own object is_pool is is_own =
      let child = laws.hang.child number object is in
      let same : child.pool ≡ pool = (let e = child.is_pool.is_pool in let f = is_pool.is_pool in cc) in
      let above : IsSlot state child.pool slot = subst (λ (n : ℕ). IsSlot state n slot) (sym same) is_pool.is_slot in
      (keeps.less child.pool object.slot slot own child.is_parent above is_own).bytes

  planned : List PlannedObject
  planned = map (planned_object state.slots) state.objects

  -- the object at a place of the plan, with its slot
  record IsPlannedAt (place : ℕ) (d : PlannedObject) : Type 0 where
    object : Object
    slot : SlotState
    is_object : IsObject state (suc place) object
    is_slot : IsSlot state object.slot slot
    state_is : (get_or planned place d).state ≡ object.state
    span_is : (get_or planned place d).span ≡ slot.capability.span

  planned-at : (place : ℕ) (d : PlannedObject) → place < length planned → IsPlannedAt place d
  unfolding planned
  planned-at place d within =
      let none : Object = record { size = 0; slot = 0; state = Live } in
      let f : Object → PlannedObject = planned_object state.slots in
      let object : Object = get_or state.objects place none in
      let as_many = length-map state.objects f in
      let there : place < length state.objects = omega (arith, within, as_many) in
      let is : get_or (map f state.objects) place d ≡ f object =
      get_or_default (map f state.objects) place d (f none) within ∙ get_or-map f state.objects place none in
      let is_object : IsObject state (suc place) object =
      record { found = ap (λ (o : Option Object). ok_or o NoObject) (slice_get-get_or state.objects place none there) } in
      let child = laws.hang.child (suc place) object is_object in
      let slot = child.is_parent in
      record {
        object = object;
        slot = slot.slot;
        is_object = is_object;
        is_slot = slot.is_slot;
        state_is = ap (λ (p : PlannedObject). p.state) is;
        span_is = ap (λ (p : PlannedObject). p.span) is ∙ span_of_slot-is state object.slot slot.slot slot.is_slot;
      }

  planned-apart : AllPairs AreApart planned
  planned-apart i j d less within live live' shares =
      let first = planned-at i d (omega (arith, less, within)) in
      let second = planned-at j d within in
      let held : IsHeldObject state (suc i) first.object = record {
        is_object = first.is_object;
        held = subst (λ s. IsTrue (is_held s)) first.state_is live;
      } in
      let also : IsHeldObject state (suc j) second.object = record {
        is_object = second.is_object;
        held = subst (λ s. IsTrue (is_held s)) second.state_is live';
      } in
      laws.disjoint.apart (suc i) (suc j) first.object second.object first.object.slot second.object.slot first.slot second.slot held also
      (λ same. absurd (omega (arith, less, same))) (inl refl) (inl refl) first.is_slot second.is_slot
      (subst (λ (s : Span). SharesByte first.slot.capability.span s) second.span_is
      (subst (λ (s : Span). SharesByte s (get_or planned j d).span) first.span_is shares))

  planned-within : (pool : ℕ) (slot : SlotState) → IsPool state pool slot → All (λ object. IsWithin object.span slot.capability.span) planned
  planned-within pool slot is_pool place d within =
      let at = planned-at place d within in
      subst (λ (s : Span). IsWithin s slot.capability.span) (sym at.span_is)
      (object-in_pool pool (suc place) slot at.slot at.object is_pool at.is_object at.is_slot)

  pub held-in_pool : (pool : ℕ) (slot : SlotState) → IsPool state pool slot → held_bytes_of state ≤ length_of slot.capability.span
  unfolding planned
  held-in_pool pool slot is_pool =
      let fit = held_bytes-pool slot.capability.span planned planned-apart (planned-within pool slot is_pool) in
      let same : planned_bytes planned ≡ held_bytes_of state =
      ap (λ (spans : List Span). sum_by length_of spans) (held-planned (plan_of state) state refl) in
      omega (arith, fit, same)

  planned-some : All (λ object. object.span.base < object.span.top) planned
  planned-some place d within =
      let at = planned-at place d within in
      let exact = laws.exact.exact (suc place) at.object at.slot at.is_object at.is_slot in
      let bytes : at.slot.capability.span.base < at.slot.capability.span.top = omega (arith, exact.some, exact.at_least) in
      subst (λ (s : Span). s.base < s.top) (sym at.span_is) bytes

  -- without a pool there is no object
  planned-none : state.pool ≡ None → (pool : Span) → All (λ object. IsWithin object.span pool) planned
  planned-none none pool place d within =
      let at = planned-at place d within in
      let child = laws.hang.child (suc place) at.object at.is_object in
      let e : None ≡ Some child.pool = sym none ∙ child.is_pool.is_pool in
      cc

  placed-by : (pool : Span) → pool.base ≤ pool.top → All (λ object. IsWithin object.span pool) planned
      → ArePlaced pool (plan_of state).objects
  unfolding planned
  placed-by pool in_order within =
      record { in_order = in_order; some = planned-some; within = within; apart = planned-apart }

  pub placed : ArePlaced (unwrap_or (option_map (λ pool. pool.span) (pool_capability state)) (from_zero 0)) (plan_of state).objects
  placed = by_pool state.pool refl
    where
      by_pool : (pool : Option ℕ) → state.pool ≡ pool
          → ArePlaced (unwrap_or (option_map (λ pool. pool.span) (pool_capability state)) (from_zero 0)) (plan_of state).objects
      by_pool None is =
          let none : pool_capability state ≡ None =
          ap (λ (p : Option ℕ). option_and_then (λ n. option_map (λ s. s.capability) (slice_get state.slots n)) p) is in
          subst (λ (p : Option Capability). ArePlaced (unwrap_or (option_map (λ c. c.span) p) (from_zero 0)) (plan_of state).objects) (sym none)
          (placed-by (from_zero 0) (omega arith) (planned-none is (from_zero 0)))
      by_pool (Some number) is =
          let there = keeps.pool number is in
          let some : pool_capability state ≡ Some there.slot.capability = pool_capability-is state number there.slot is there.is_slot in
          let is_cap = keeps.holds number there.slot there.is_slot in
          subst (λ (p : Option Capability). ArePlaced (unwrap_or (option_map (λ c. c.span) p) (from_zero 0)) (plan_of state).objects) (sym some)
          (placed-by there.slot.capability.span is_cap.is_span.in_order
          (planned-within number there.slot (record { is_pool = is; is_slot = there.is_slot })))

-- so they are in every reached state
pub placed-reached : (state : State) → IsReached state
    → ArePlaced (unwrap_or (option_map (λ pool. pool.span) (pool_capability state)) (from_zero 0)) (plan_of state).objects
placed-reached state reached = placed state (Keeps-reached state reached) (KeepsObjectLaws-reached state reached)
