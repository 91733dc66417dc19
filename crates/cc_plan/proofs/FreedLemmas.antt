-- The freed objects: the planner's list of their positions, and the result of sweeping them one by
-- one.
use Rattle.std.proofs.Common.{ℕ, Bool, true, false, if◌then◌else◌, cond, ◌≡◌, ◌≢◌, ◌+◌, ◌<◌, ◌≤◌, List, [], ◌∷◌, ◌++◌, Option, Some, All, length, get_or, map, slice_set, IsPermutation, eqb, inl}
use Rattle.std.proofs.Common.{inr, arith, refl, subst, ◌∙◌, sym, ap}
use Rattle.std.proofs.lemmas.Bool.{cases_eq, eqb-false, ne_eqb}
use Rattle.std.proofs.lemmas.List.{get_or_append_left, get_or_push, get_or-set_same, get_or-set_other, length_push, length-set}
use Rattle.std.proofs.lemmas.List.Elements.{All-push}
use Rattle.std.proofs.lemmas.List.Quantifiers.{all_pairs_push}
use Rattle.std.proofs.lemmas.List.Sorted.{All-permutation, length_permutation}
use Rattle.std.proofs.lemmas.Map.Keys.{IsDistinct-IsPermutation, IsDistinct-from_apart, apart_from_distinct}
use Rattle.std.proofs.lemmas.List.Sums.{sum_by-cons, sum_by-le, sum_by_push, sum_by-set}
use Rattle.std.proofs.Math.Seq.{map-set_same}
use Rattle.std.specs.Option.{option_to_list}
use Rattle.cc_bounds.specs.declared.span.Span.{Span}
use Rattle.cc_cap.specs.Capability.{Capability}
use Rattle.cc_bounds.specs.declared.align.Align.{Align}
use Rattle.cc_plan.specs.declared.planned_object.ObjectState.{ObjectState}
use Rattle.cc_plan.specs.declared.planned_object.ObjectState.TheVariants.{Live, Freed, Swept}
use Rattle.cc_plan.specs.PlannedObject.{PlannedObject}
use Rattle.cc_plan.specs.Plan.{Plan, PlanSweeps, plan_freed, is_freed, is_held, plan_swept}
use Rattle.cc_plan.specs.PlannerState.{IsFreedAt, ListsFreed, SweepsOne}
use Rattle.cc_plan.proofs.HeldSpanLemmas.{made, as_swept, as_freed}

-- what an object adds to the count of the freed ones
abbrev freed_weight : PlannedObject → ℕ
freed_weight object = cond (is_freed object.state) 1 0

-- ---- the list of the freed objects

-- at most as many are freed as there are
freed_at_most : (objects : List PlannedObject) → plan_freed objects ≤ length objects
freed_at_most objects =
    let most : All (λ object. freed_weight object ≤ 1) objects =
    λ k d _. at_most_one (is_freed (get_or objects k d).state) in
    omega (arith, sum_by-le freed_weight 1 objects most)
  where
    at_most_one : (freed : Bool) → cond freed 1 0 ≤ 1
    at_most_one true = omega arith
    at_most_one false = omega arith

-- the object that is read at the position of a freed one
pub freed_read : (objects : List PlannedObject) (position : ℕ) (object : PlannedObject) → IsFreedAt objects position
    → object ≡ get_or objects position object → object.state ≡ Freed
freed_read objects position object at is = ap (λ (o : PlannedObject). o.state) is ∙ at.freed object

-- the last of the list
pub last_freed : (objects : List PlannedObject) (freed : List ℕ) (position : ℕ)
    → ListsFreed objects (freed ++ position ∷ []) → IsFreedAt objects position
last_freed objects freed position lists =
    let more = length_push freed position in
    subst (λ (n : ℕ). IsFreedAt objects n) (get_or_push freed position 0 (length freed) refl) (lists.each
    (length freed) 0 (omega (arith, more)))

-- the freed object that was listed last is held
pub record IsPopped (objects : List PlannedObject) (freed rest : List ℕ) (position : ℕ)
    (object : PlannedObject) : Type 0 where
  pub listed : freed ≡ rest ++ position ∷ []
  pub at : IsFreedAt objects position
  pub held : is_held object.state ≡ true

pub popped : (objects : List PlannedObject) (freed rest : List ℕ) (last : Option ℕ) (position : ℕ)
    (object : PlannedObject)
    → freed ≡ rest ++ option_to_list last → last ≡ Some position → object ≡ get_or objects position object
    → ListsFreed objects freed
    → IsPopped objects freed rest position object
popped objects freed rest last position object was last_is is lists =
    let listed : freed ≡ rest ++ position ∷ [] = was ∙ ap (λ (l : Option ℕ). rest ++ option_to_list l) last_is in
    let at = last_freed objects rest position (subst (λ (list : List ℕ). ListsFreed objects list) listed lists) in
    record { listed = listed; at = at; held = ap is_held (freed_read objects position object at is) }

-- a freed object stays if another position is written
freed_off : (objects : List PlannedObject) (position k : ℕ) (object : PlannedObject) → k ≢ position
    → IsFreedAt objects k
    → IsFreedAt (slice_set objects position object) k
freed_off objects position k object other at = record {
  within = rw length-set at.within;
  freed = λ d. ap (λ (o : PlannedObject). o.state) (get_or-set_other objects position k object d other) ∙ at.freed d;
}

-- and if one more object is made
pub listed_made : (objects : List PlannedObject) (freed : List ℕ) (size : ℕ) (span : Span) → ListsFreed objects freed
    → ListsFreed (objects ++ made size span ∷ []) freed
listed_made objects freed size span lists = record {
  each = λ k d within.
      let at = lists.each k d within in
      record {
        within = omega (arith, at.within, length_push objects (made size span));
        freed = λ e.
            ap (λ (o : PlannedObject). o.state) (get_or_append_left objects (made size span ∷ []) e
            (get_or freed k d) at.within) ∙ at.freed e;
      };
  differ = lists.differ;
  as_many = omega (arith, lists.as_many, sum_by_push freed_weight objects (made size span));
}

-- the list in another order
pub listed_sorted : (objects : List PlannedObject) (freed sorted : List ℕ) → IsPermutation freed sorted
    → ListsFreed objects freed → ListsFreed objects sorted
listed_sorted objects freed sorted same lists = record {
  each = All-permutation (IsFreedAt objects) freed sorted same lists.each;
  differ = λ i j d less within equal.
      let apart = apart_from_distinct eqb sorted i j d
      (IsDistinct-IsPermutation eqb flips freed sorted same
      (IsDistinct-from_apart eqb freed (λ k l e low inside. ne_eqb _ _ (lists.differ k l e low inside)))) less within in
      eqb-false _ _ apart equal;
  as_many = omega (arith, lists.as_many, length_permutation freed sorted same);
}
  where
    flips : (x y : ℕ) → eqb x y ≡ eqb y x
    flips x y = elim (cases_eq x y) [
      | inl same ↦ rw same refl
      | inr other ↦ ne_eqb x y other ∙ sym (ne_eqb y x (λ same. other (sym same)))
    ]

-- the freed object that was listed last is plan_swept
pub listed_swept : (objects : List PlannedObject) (freed : List ℕ) (position : ℕ) (object : PlannedObject)
    → object ≡ get_or objects position object
    → ListsFreed objects (freed ++ position ∷ []) → ListsFreed (slice_set objects position (as_swept object)) freed
listed_swept objects freed position object is lists =
    let last = last_freed objects freed position lists in
    let more = length_push freed position in
    let set_sum = sum_by-set freed_weight objects position (as_swept object) object last.within in
    let one : freed_weight (get_or objects position object) ≡ 1 =
    ap (λ (s : ObjectState). cond (is_freed s) 1 0) (last.freed object) in
    record {
      each = λ k d within.
          let was : get_or (freed ++ position ∷ []) k d ≡ get_or freed k d =
          get_or_append_left freed (position ∷ []) d k within in
          let at = subst (λ (n : ℕ). IsFreedAt objects n) was (lists.each k d (omega (arith, within, more))) in
          let other : get_or freed k d ≢ position =
          λ same. lists.differ k (length freed) d within (omega (arith, more))
          (was ∙ same ∙ sym (get_or_push freed position d (length freed) refl)) in
          freed_off objects position (get_or freed k d) (as_swept object) other at;
      differ = λ i j d less within.
          let first = get_or_append_left freed (position ∷ []) d i (omega (arith, less, within)) in
          let second = get_or_append_left freed (position ∷ []) d j within in
          λ same. lists.differ i j d less (omega (arith, within, more)) (first ∙ same ∙ sym second);
      as_many = omega (arith, lists.as_many, more, set_sum, one);
    }

-- a live object is freed, and listed
pub listed_freed : (objects : List PlannedObject) (freed : List ℕ) (position : ℕ) (object : PlannedObject)
    → position < length objects
    → object ≡ get_or objects position object → object.state ≡ Live
    → ListsFreed objects freed → ListsFreed (slice_set objects position (as_freed object)) (freed ++ position ∷ [])
listed_freed objects freed position object within is live lists =
    let more = length_push freed position in
    let set_sum = sum_by-set freed_weight objects position (as_freed object) object within in
    let none : freed_weight (get_or objects position object) ≡ 0 =
    ap freed_weight (sym is) ∙ ap (λ (s : ObjectState). cond (is_freed s) 1 0) live in
    let here : IsFreedAt (slice_set objects position (as_freed object)) position = record {
      within = rw length-set within;
      freed = λ d. ap (λ (o : PlannedObject). o.state) (get_or-set_same objects position (as_freed object) d within);
    } in
    let apart : (k d : ℕ) → k < length freed → get_or freed k d ≢ position =
    λ k d inside same.
    let at = lists.each k d inside in
    let e : object.state ≡ Freed =
    ap (λ (o : PlannedObject). o.state) is
    ∙ subst (λ (n : ℕ). (get_or objects n object).state ≡ Freed) same (at.freed object) in
    let f : Live ≡ Freed = sym live ∙ e in
    cc in
    record {
      each = All-push (IsFreedAt (slice_set objects position (as_freed object))) freed position
          (λ k d inside. freed_off objects position (get_or freed k d) (as_freed object) (apart k d inside)
          (lists.each k d inside)) here;
      differ = all_pairs_push (λ one other. one ≢ other) freed position lists.differ apart;
      as_many = omega (arith, lists.as_many, more, set_sum, none);
    }

-- while an object is live, fewer objects are listed than there are
pub freed_room : (objects : List PlannedObject) (freed : List ℕ) (position : ℕ) (object : PlannedObject)
    → position < length objects
    → object ≡ get_or objects position object → object.state ≡ Live → ListsFreed objects freed
    → length freed < length objects
freed_room objects freed position object within is live lists =
    let lists' = listed_freed objects freed position object within is live lists in
    let more = length_push freed position in
    let long = length-set objects position (as_freed object) in
    let most = freed_at_most (slice_set objects position (as_freed object)) in
    omega (arith, lists'.as_many, more, long, most)

-- ---- sweeping

-- a freed object is plan_swept
swept-freed : (object : PlannedObject) → object.state ≡ Freed → plan_swept object ≡ as_swept object
swept-freed object freed =
    ap (λ (s : ObjectState). if is_freed s then record object { state = Swept } else object) freed

-- and what is plan_swept stays so
swept-again : (object : PlannedObject) → plan_swept (as_swept object) ≡ as_swept object
swept-again object = refl

pub sweeps_one : (limit : ℕ) (pool : Option Capability) (align : Align) (objects : List PlannedObject)
    (position : ℕ) (object : PlannedObject)
    → IsFreedAt objects position → object ≡ get_or objects position object
    → SweepsOne (record { limit = limit; pool = pool; align = align; objects = objects })
    (record { limit = limit; pool = pool; align = align; objects = slice_set objects position (as_swept object) })
sweeps_one limit pool align objects position object at is =
    let freed = freed_read objects position object at is in
    record {
      position = position;
      object = object;
      within = at.within;
      at = is;
      freed = freed;
      is_new = λ i. record {
        limit = limit;
        pool = pool;
        align = align;
        objects = slice_set objects position (sym
            (swept-freed object freed) i);
      };
    }

-- some objects were plan_swept so far
pub record IsSweeping (old now : Plan) (done : ℕ) : Type 0 where
  pub limit : now.limit ≡ old.limit
  pub pool : now.pool ≡ old.pool
  pub align : now.align ≡ old.align
  pub same : map plan_swept now.objects ≡ map plan_swept old.objects
  pub counted : plan_freed now.objects + done ≡ plan_freed old.objects

pub sweeping_begins : (old : Plan) → IsSweeping old old 0
sweeping_begins old = record { limit = refl; pool = refl; align = refl; same = refl; counted = omega arith }

pub sweeping_on : (old now new : Plan) (done : ℕ) → IsSweeping old now done → SweepsOne now new
    → IsSweeping old new (done + 1)
sweeping_on old now new done so_far one =
    let d = one.object in
    let gone : plan_swept one.object ≡ as_swept one.object = swept-freed one.object one.freed in
    let objects_are : new.objects ≡ slice_set now.objects one.position (plan_swept one.object) =
    ap (λ (p : Plan). p.objects) one.is_new in
    let again : plan_swept (plan_swept one.object) ≡ plan_swept (get_or now.objects one.position d) =
    ap plan_swept gone ∙ swept-again one.object ∙ sym gone ∙ ap plan_swept one.at in
    let set_sum = sum_by-set freed_weight now.objects one.position (plan_swept one.object) d one.within in
    let was : freed_weight (get_or now.objects one.position d) ≡ 1 =
    ap freed_weight (sym one.at) ∙ ap (λ (s : ObjectState). cond (is_freed s) 1 0) one.freed in
    let is : freed_weight (plan_swept one.object) ≡ 0 = ap freed_weight gone in
    let count : plan_freed new.objects ≡ plan_freed (slice_set now.objects one.position (plan_swept one.object)) =
    ap plan_freed objects_are in
    record {
      limit = ap (λ (p : Plan). p.limit) one.is_new ∙ so_far.limit;
      pool = ap (λ (p : Plan). p.pool) one.is_new ∙ so_far.pool;
      align = ap (λ (p : Plan). p.align) one.is_new ∙ so_far.align;
      same =
          ap (λ (os : List PlannedObject). map plan_swept os) objects_are
          ∙ map-set_same plan_swept now.objects one.position (plan_swept one.object) d again ∙ so_far.same;
      counted = omega (arith, so_far.counted, set_sum, was, is, count);
    }

-- if none is freed, sweeping leaves the objects
none_swept : (objects : List PlannedObject) → plan_freed objects ≡ 0 → map plan_swept objects ≡ objects
none_swept [] none = refl
none_swept (object ∷ objects) none =
    by_state (is_freed object.state) refl (λ few. none_swept objects few)
  where
    by_state : (freed : Bool) → is_freed object.state ≡ freed → (plan_freed objects ≡ 0 → map plan_swept objects ≡ objects)
        → map plan_swept (object ∷ objects) ≡ object ∷ objects
    by_state true is again =
        let one : freed_weight object ≡ 1 = ap (λ (b : Bool). cond b 1 0) is in
        absurd (omega (arith, none, one, sum_by-cons freed_weight object objects))
    by_state false is again =
        let first : plan_swept object ≡ object = ap (λ (b : Bool). if b then record object {
          state =
              Swept;
        } else object) is in
        let rest = again (omega (arith, none, sum_by-cons freed_weight object objects)) in
        ap (λ (o : PlannedObject). o ∷ map plan_swept objects) first ∙ ap (λ (os : List PlannedObject). object ∷ os) rest

-- the last was plan_swept
pub sweeping_ends : (old now : Plan) (done : ℕ) → IsSweeping old now done → done ≡ plan_freed old.objects
    → PlanSweeps old done now
sweeping_ends old now done so_far all =
    let none : plan_freed now.objects ≡ 0 = omega (arith, so_far.counted, all) in
    let objects_are : now.objects ≡ map plan_swept old.objects = sym (none_swept now.objects none) ∙ so_far.same in (
      all,
      λ i. record {
        limit = so_far.limit i;
        pool = so_far.pool i;
        align = so_far.align i;
        objects = objects_are i;
      },
    )
