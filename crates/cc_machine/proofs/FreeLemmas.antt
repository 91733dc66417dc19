-- The planner's free is the machine's step.
use Rattle.std.proofs.Common.{ℕ, zero, suc, ◌≡◌, ◌-◌, ◌∙◌, List, Option, Some, None, IfSome, IsSomeAnd, Ok, Err, length, map, ok_or, option_map, slice_index, slice_index_or, slice_set, set}
use Rattle.std.proofs.Common.{sum_by, refl, sym, ap, subst, inl, inr, arith}
use Rattle.std.specs.List.{slice_get}
use Rattle.std.proofs.lemmas.Grind.{get_or_default_zero}
use Rattle.std.proofs.lemmas.List.{length-set, map-set}
use Rattle.std.proofs.lemmas.Option.{slice_get-map, slice_get_read, slice_get_within}
use Rattle.cc_word.specs.declared.refusal.Refusal.{Refusal}
use Rattle.cc_word.specs.declared.refusal.Refusal.TheVariants.{NoObject}
use Rattle.cc_bounds.specs.declared.span.Span.{Span}
use Rattle.cc_bounds.specs.Span.{length_of}
use Rattle.cc_plan.specs.declared.planned_object.ObjectState.TheVariants.{Live, Freed}
use Rattle.cc_plan.specs.PlannedObject.{PlannedObject}
use Rattle.cc_plan.specs.Plan.{Plan, PlanFrees, plan_bytes as planned_bytes, IsLive, object_numbered}
use Rattle.cc_machine.specs.declared.object.Object.{Object}
use Rattle.cc_values.specs.declared.reply.Reply.TheVariants.{Freed as ToldFreed}
use Rattle.cc_machine.specs.State.{State, SlotState}
use Rattle.cc_machine.specs.Objects.{object_at, IsObject, held_bytes_of}
use Rattle.cc_machine.specs.Step.{FreesObject}
use Rattle.cc_machine.specs.Machine.{objects_in}
use Rattle.cc_machine.specs.Planned.{planned_object, plan_of}
use Rattle.cc_machine.specs.Owners.{TellsOwners}
use Rattle.cc_machine.proofs.SameSlotsLemmas.{HaveSameSlots-list}
use Rattle.cc_machine.proofs.ObjectLemmas.{ok-some}
use Rattle.cc_machine.proofs.ObjectFreedLemmas.{was-freed}
use Rattle.cc_machine.proofs.OwnerLemmas.{TellsOwners-stays}
use Rattle.cc_machine.proofs.PlanLemmas.{objects_in-at, objects_in-none, objects_in-set, held-planned, with_own}
use Rattle.cc_machine.proofs.ActionLemmas.{state_with}

-- an object of the planner with its slot
pub object-told : (planned : List PlannedObject) (own : List ℕ) (number : ℕ) (p : PlannedObject) (s : ℕ) → length own ≡ length planned
    → ok_or (object_numbered planned number) NoObject ≡ Ok p → s ≡ slice_index_or own (number - 1) s
    → object_at (objects_in planned own) number ≡ Ok (with_own p s)
object-told planned own zero p s long told at = let e = told in cc
object-told planned own (suc k) p s long told at =
    let back : suc k - 1 ≡ k = omega arith in
    let found : slice_get planned k ≡ Some p = ok-some (slice_get planned k) p told in
    let within = slice_get_within planned k p found in
    let own_at : slice_get own k ≡ Some s =
    slice_get_read own (length own) k s refl (omega (arith, within, long)) (at ∙ ap (λ (n : ℕ). slice_index_or own n s) back) in
    ap (λ (o : Option Object). ok_or o NoObject) (objects_in-at planned own k p s found own_at)

-- it is at the position before its number
pub numbered : (objects : List PlannedObject) (number : ℕ) (p : PlannedObject) → object_numbered objects number ≡ Some p → slice_get objects (number - 1) ≡ Some p
numbered objects zero p found = let e = found in cc
numbered objects (suc k) p found = let back : suc k - 1 ≡ k = omega arith in ap (λ (n : ℕ). slice_get objects n) back ∙ found

-- an object of the state is the planner's of its number, with its slot
pub record IsPlanned (planned : List PlannedObject) (own : List ℕ) (number : ℕ) (object : Object) : Type 0 where
  pub before : PlannedObject
  pub found : object_numbered planned number ≡ Some before
  pub is : object ≡ with_own before (slice_index own (number - 1))

-- if the planner has an object, its slot exists
pub own-at : (planned : List PlannedObject) (own : List ℕ) → length own ≡ length planned → (number : ℕ) (p : PlannedObject)
    → object_numbered planned number ≡ Some p → object_at (objects_in planned own) number ≡ Ok (with_own p (slice_index own (number - 1)))
own-at planned own long number p found =
    let within = slice_get_within planned (number - 1) p (numbered planned number p found) in
    object-told planned own number p (slice_index own (number - 1)) long (ap (λ (o : Option PlannedObject). ok_or o NoObject) found)
    (sym (get_or_default_zero own (number - 1) (slice_index own (number - 1)) (omega (arith, within, long))))

pub planned-of : (planned : List PlannedObject) (own : List ℕ) → length own ≡ length planned → (number : ℕ) (object : Object)
    → object_at (objects_in planned own) number ≡ Ok object → IsPlanned planned own number object
planned-of planned own long zero object at = cc
planned-of planned own long (suc k) object at = by_found (slice_get planned k) refl
  where
    by_found : (there : Option PlannedObject) → slice_get planned k ≡ there → IsPlanned planned own (suc k) object
    by_found None is =
        let none : slice_get (objects_in planned own) k ≡ None = objects_in-none planned own k is in
        let some = ok-some (slice_get (objects_in planned own) k) object at in
        cc
    by_found (Some p) is = record {
      before = p;
      found = is;
      is = (let e = own-at planned own long (suc k) p is in let f = at in cc);
    }

-- a live object of the planner, and the plan in which it is freed
pub record IsFreed (plan : Plan) (number : ℕ) (new_plan : Plan) : Type 0 where
  pub planned : PlannedObject
  pub found : object_numbered plan.objects number ≡ Some planned
  pub live : planned.state ≡ Live
  pub is_new : new_plan ≡ record plan { objects = slice_set plan.objects (number - 1) (record planned { state = Freed }) }

pub is-freed : (plan : Plan) (number : ℕ) (answer : Unit {0}) (new_plan : Plan) → PlanFrees plan number (Ok answer) new_plan → IsFreed plan number new_plan
is-freed plan number answer new_plan (inr none) = let e = none.1 in cc
is-freed plan number answer new_plan (inl (live, (_, freed))) = by_found (object_numbered plan.objects number) refl live freed
  where
    by_found : (found : Option PlannedObject) → object_numbered plan.objects number ≡ found → IsSomeAnd found (λ o. o.state ≡ Live)
        → IfSome found (λ o. new_plan ≡ record plan { objects = slice_set plan.objects (number - 1) (record o { state = Freed }) })
        → IsFreed plan number new_plan
    by_found None is live freed = absurd live
    by_found (Some p) is live freed = record { planned = p; found = is; live = live; is_new = freed }

-- a refused free: there is no live object of this number, and the plan stays
pub record IsRefusedFree (plan : Plan) (number : ℕ) (refusal : Refusal) (new_plan : Plan) : Type 0 where
  pub is_refusal : refusal ≡ NoObject
  pub not_live : ¬ IsLive plan.objects number
  pub stays : new_plan ≡ plan

pub free-refused : (plan : Plan) (number : ℕ) (refusal : Refusal) (new_plan : Plan) → PlanFrees plan number (Err refusal) new_plan
    → IsRefusedFree plan number refusal new_plan
free-refused plan number refusal new_plan (inr none) =
    let answer = none.1.0 in
    record { is_refusal = cc; not_live = none.0; stays = none.1.1 }
free-refused plan number refusal new_plan (inl (_, (answer, _))) = let e = answer in cc

-- an object that is live in the state is live in the planner
pub planned-live : (planned : List PlannedObject) (own : List ℕ) → length own ≡ length planned → (number : ℕ) (object : Object)
    → object_at (objects_in planned own) number ≡ Ok object → object.state ≡ Live → IsLive planned number
planned-live planned own long number object at live =
    let it = planned-of planned own long number object at in
    subst (λ (o : Option PlannedObject). IsSomeAnd o (λ p. p.state ≡ Live)) (sym it.found) (sym (ap (λ (o : Object). o.state) it.is) ∙ live)

-- the number of an object is not 0
pub some-number : (objects : List PlannedObject) (number : ℕ) (p : PlannedObject) → object_numbered objects number ≡ Some p → number ≡ suc (number - 1)
some-number objects zero p found = let e = found in cc
some-number objects (suc k) p found = omega arith

module _ (limit : ℕ) (slots : List SlotState) (pool : Option ℕ) (plan : Plan) (own : List ℕ)
    (each_has_slot : length own ≡ length plan.objects) (planned : plan ≡ plan_of (state_with limit slots pool plan own))
    (number : ℕ) (answer : Unit {0}) (new_plan : Plan) (frees : PlanFrees plan number (Ok answer) new_plan) where
  abbrev state : State
  state = state_with limit slots pool plan own

  freed : IsFreed plan number new_plan
  freed = is-freed plan number answer new_plan frees

  at-planned : slice_get plan.objects (number - 1) ≡ Some freed.planned
  at-planned = numbered plan.objects number freed.planned freed.found

  -- the object's slot
  abbrev s : ℕ
  s = slice_index own (number - 1)

  own_is : s ≡ slice_index_or own (number - 1) s
  own_is =
      let within = slice_get_within plan.objects (number - 1) freed.planned at-planned in
      sym (get_or_default_zero own (number - 1) s (omega (arith, within, each_has_slot)))

  abbrev object : Object
  object = with_own freed.planned s

  is_object : IsObject state number object
  is_object = record {
    found =
        object-told plan.objects own number freed.planned s each_has_slot
        (ap (λ (o : Option PlannedObject). ok_or o NoObject) freed.found) own_is;
  }

  at-own : slice_get own (number - 1) ≡ Some s
  at-own =
      let within = slice_get_within plan.objects (number - 1) freed.planned at-planned in
      slice_get_read own (length own) (number - 1) s refl (omega (arith, within, each_has_slot)) own_is

  abbrev new : State
  new = state_with limit slots pool new_plan own

  pub record FreesTo (held : ℕ) : Type 0 where
    pub marks : FreesObject state number (ToldFreed number 0 held) new
    pub is_plan : new_plan ≡ plan_of new
    pub as_many : length own ≡ length new_plan.objects
    pub tells_now : (owners : List ℕ) → TellsOwners owners state → TellsOwners owners new

  pub free-frees : (held : ℕ) → held ≡ planned_bytes new_plan.objects → FreesTo held
  free-frees held held_is =
      let i : ℕ = number - 1 in
      let marked : PlannedObject = record freed.planned { state = Freed } in
      let gone : Object = record object { state = Freed } in
      let all_objects : new.objects ≡ slice_set state.objects i gone =
      ap (λ (p : Plan). objects_in p.objects own) freed.is_new ∙ objects_in-set plan.objects own i marked s at-own in
      let objects_are : plan.objects ≡ map (planned_object slots) state.objects = ap (λ (p : Plan). p.objects) planned in
      let there : slice_get state.objects i ≡ Some object = objects_in-at plan.objects own i freed.planned s at-planned at-own in
      let both : Some freed.planned ≡ Some (planned_object slots object) =
      sym at-planned ∙ ap (λ (os : List PlannedObject). slice_get os i) objects_are
      ∙ slice_get-map (planned_object slots) state.objects i ∙ ap (λ (o : Option Object). option_map (planned_object slots) o) there in
      let p_is : freed.planned ≡ planned_object slots object = cc in
      let gone_is : planned_object slots gone ≡ marked = ap (λ (p : PlannedObject). record p { state = Freed }) (sym p_is) in
      let mapped : map (planned_object slots) new.objects ≡ slice_set plan.objects i marked =
      ap (λ (os : List Object). map (planned_object slots) os) all_objects
      ∙ map-set (planned_object slots) state.objects i gone
      ∙ ap (λ (os : List PlannedObject). set os i (planned_object slots gone)) (sym objects_are)
      ∙ ap (λ (p : PlannedObject). set plan.objects i p) gone_is in
      let limit_is : plan.limit ≡ limit = ap (λ (p : Plan). p.limit) planned in
      let pool_is = ap (λ (p : Plan). p.pool) planned in
      let same_align : new_plan.align ≡ plan.align = ap (λ (p : Plan). p.align) freed.is_new in
      let freed_plan : record plan { objects = slice_set plan.objects i marked } ≡ plan_of new =
      λ j. record { limit = limit_is j; pool = pool_is j; align = sym same_align j; objects = sym mapped j } in
      let is_plan : new_plan ≡ plan_of new = freed.is_new ∙ freed_plan in
      let held_now : held ≡ held_bytes_of new =
      held_is ∙ ap (λ (spans : List Span). sum_by length_of spans) (held-planned new_plan new is_plan) in
      let it : FreesObject state number (ToldFreed number 0 held) new = record {
        object = object;
        is_live = record { is_object = is_object; live = freed.live };
        is_new = λ j. record { limit = limit; slots = slots; pool = pool; align = same_align j; objects = all_objects j };
        replied = ap (λ (n : ℕ). ToldFreed number 0 n) held_now;
      } in
      record {
        marks = it;
        is_plan = is_plan;
        as_many = each_has_slot ∙ sym (ap (λ (p : Plan). length p.objects) freed.is_new ∙ length-set plan.objects i marked);
        tells_now = λ owners tells.
            TellsOwners-stays owners state new tells (HaveSameSlots-list state new refl)
            (ap (λ (os : List Object). length os) all_objects ∙ length-set state.objects i gone)
            (was-freed state new number (ToldFreed number 0 held) it);
      }
