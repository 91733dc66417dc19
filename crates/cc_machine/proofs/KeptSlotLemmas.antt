-- Slots of the state, as the objects that they belong to are made, freed and plan_swept, and their
-- numbers as they are counted.
use Rattle.std.proofs.Common.{ℕ, zero, suc, Bool, true, false, ◌≡◌, ◌+◌, ◌<◌, ◌≤◌, ◌∙◌, ◌||◌, List, [], ◌∷◌, ◌++◌, Option, Some, None, cond, count_by, length, map, nat_eq, not, option_map, set}
use Rattle.std.proofs.Common.{slice_index, unwrap_or, refl, sym, ap, subst, inl, inr, arith}
use Rattle.std.specs.List.{slice_get}
use Rattle.std.proofs.lemmas.Bool.{eq-eqb, ne_eqb, cases_eq}
use Rattle.std.proofs.lemmas.List.{get_or_append_left, get_or_push, get_or-set_same, get_or-set_other, length_push, length-map, length-set, map_push}
use Rattle.std.proofs.lemmas.List.Sums.{count_by-le-length, sum_by-cons, sum_by_push}
use Rattle.std.proofs.lemmas.Option.{get_or_from_slice_get, slice_get-map, slice_get_within}
use Rattle.cc_plan.specs.declared.planned_object.ObjectState.{ObjectState}
use Rattle.cc_plan.specs.declared.planned_object.ObjectState.TheVariants.{Live, Freed, Swept}
use Rattle.cc_plan.specs.PlannedObject.{PlannedObject}
use Rattle.cc_plan.specs.Plan.{is_freed, is_held, object_numbered, plan_swept}
use Rattle.cc_machine.specs.declared.slot.Slot.{Slot}
use Rattle.cc_machine.specs.State.{SlotState, tagged_slot}
use Rattle.cc_machine.specs.Step.{revoked_count}
use Rattle.cc_machine.specs.Owners.{is_swept_at, is_freed_at, number_before, parent_of, slot_state, owned_count, freed_slot_count, CountsSlots}

-- ---- tests of an object by its number

-- a test of the object with a number, false if there is none
abbrev tells : (PlannedObject → Bool) → List PlannedObject → ℕ → Bool
tells test objects number = unwrap_or (option_map test (object_numbered objects number)) false

at-push : (test : PlannedObject → Bool) (objects : List PlannedObject) (more : PlannedObject) → test more ≡ false → (place : ℕ)
    → unwrap_or (option_map test (slice_get (objects ++ more ∷ []) place)) false ≡ unwrap_or (option_map test (slice_get objects place)) false
at-push test [] more fails zero = fails
at-push test [] more fails (suc place) = refl
at-push test (first ∷ objects) more fails zero = refl
at-push test (first ∷ objects) more fails (suc place) = at-push test objects more fails place

-- one more object, for which the test fails, changes no result
told-push : (test : PlannedObject → Bool) (objects : List PlannedObject) (more : PlannedObject) → test more ≡ false → (number : ℕ)
    → tells test (objects ++ more ∷ []) number ≡ tells test objects number
told-push test objects more fails zero = refl
told-push test objects more fails (suc place) = at-push test objects more fails place

at-set : (test : PlannedObject → Bool) (objects : List PlannedObject) (k : ℕ) (was now : PlannedObject) → slice_get objects k ≡ Some was
    → test now ≡ test was → (place : ℕ)
    → unwrap_or (option_map test (slice_get (set objects k now) place)) false ≡ unwrap_or (option_map test (slice_get objects place)) false
at-set test [] k was now found same place = cc
at-set test (first ∷ objects) zero was now found same zero = let e : first ≡ was = cc in same ∙ sym (ap test e)
at-set test (first ∷ objects) zero was now found same (suc place) = refl
at-set test (first ∷ objects) (suc k) was now found same zero = refl
at-set test (first ∷ objects) (suc k) was now found same (suc place) = at-set test objects k was now found same place

-- if one object is replaced by another with the same result of the test, no result changes
told-set : (test : PlannedObject → Bool) (objects : List PlannedObject) (k : ℕ) (was now : PlannedObject) → slice_get objects k ≡ Some was
    → test now ≡ test was → (number : ℕ) → tells test (set objects k now) number ≡ tells test objects number
told-set test objects k was now found same zero = refl
told-set test objects k was now found same (suc place) = at-set test objects k was now found same place

-- if each object is replaced by a function of it, the test is made of the function's value
told-map : (test : PlannedObject → Bool) (f : PlannedObject → PlannedObject) (objects : List PlannedObject) (number : ℕ)
    → tells test (map f objects) number ≡ tells (λ object. test (f object)) objects number
told-map test f objects zero = refl
told-map test f objects (suc place) =
    ap (λ (found : Option PlannedObject). unwrap_or (option_map test found) false) (slice_get-map f objects place)
    ∙ by_found (slice_get objects place)
  where
    by_found : (found : Option PlannedObject) → unwrap_or (option_map test (option_map f found)) false ≡ unwrap_or (option_map (λ object. test (f object)) found) false
    by_found None = refl
    by_found (Some object) = refl

-- no object has the number of the next
told-next : (test : PlannedObject → Bool) (objects : List PlannedObject) (next : ℕ) → next ≡ length objects + 1 → tells test objects next ≡ false
told-next test objects next is =
    let e : next ≡ suc (length objects) = omega (arith, is) in
    ap (λ (n : ℕ). tells test objects n) e ∙ past objects
  where
    past : (list : List PlannedObject) → unwrap_or (option_map test (slice_get list (length list))) false ≡ false
    past [] = refl
    past (first ∷ list) = past list

-- a freed object has this number
pub record IsFreedObject (objects : List PlannedObject) (number : ℕ) : Type 0 where
  pub object : PlannedObject
  pub found : object_numbered objects number ≡ Some object
  pub freed : object.state ≡ Freed

pub freed-object : (objects : List PlannedObject) (number : ℕ) → is_freed_at objects number ≡ true → IsFreedObject objects number
freed-object objects number is = by_found (object_numbered objects number) refl is
  where
    by_state : (state : ObjectState) → is_freed state ≡ true → state ≡ Freed
    by_state Live is = cc
    by_state Freed is = refl
    by_state Swept is = cc

    by_found : (found : Option PlannedObject) → object_numbered objects number ≡ found
        → unwrap_or (option_map (λ object. is_freed object.state) found) false ≡ true → IsFreedObject objects number
    by_found None at is = cc
    by_found (Some object) at is = record { object = object; found = at; freed = by_state object.state is }

-- and if one has, the test holds
pub freed-at : (objects : List PlannedObject) (number : ℕ) (object : PlannedObject) → object_numbered objects number ≡ Some object
    → object.state ≡ Freed → is_freed_at objects number ≡ true
freed-at objects number object found freed =
    ap (λ (there : Option PlannedObject). unwrap_or (option_map (λ o. is_freed o.state) there) false) found ∙ ap is_freed freed

-- ---- what a slot is in the state

-- slots are the same in two states in which the same objects are plan_swept
slots-same : (objects objects' : List PlannedObject) → ((number : ℕ) → is_swept_at objects' number ≡ is_swept_at objects number) → (slots : List Slot)
    → map (slot_state objects') slots ≡ map (slot_state objects) slots
slots-same objects objects' same slots =
    ap (λ (f : Slot → SlotState). map f slots)
    (λ i slot. record { capability = slot.capability; revoked = same slot.owner i; parent = parent_of slot })

-- an object more, which is held
pub slots-made : (objects : List PlannedObject) (more : PlannedObject) → is_held more.state ≡ true → (slots : List Slot)
    → map (slot_state (objects ++ more ∷ [])) slots ≡ map (slot_state objects) slots
slots-made objects more held =
    slots-same objects (objects ++ more ∷ []) (told-push (λ object. not (is_held object.state)) objects more (ap not held))

-- a live object is freed
pub slots-freed : (objects : List PlannedObject) (k : ℕ) (object : PlannedObject) → slice_get objects k ≡ Some object → object.state ≡ Live
    → (slots : List Slot) → map (slot_state (set objects k (record object { state = Freed }))) slots ≡ map (slot_state objects) slots
slots-freed objects k object found live =
    slots-same objects (set objects k (record object { state = Freed }))
    (told-set (λ o. not (is_held o.state)) objects k object (record object { state = Freed }) found
    (sym (ap (λ (s : ObjectState). not (is_held s)) live)))

-- the number before the next
pub before-next : (number : ℕ) → number_before (number + 1) ≡ Some number
before-next number = let next : number + 1 ≡ suc number = omega arith in ap number_before next

-- what a slot more is in the state
pub slots-push : (objects : List PlannedObject) (slots : List Slot) (more : Slot) (parent : Option ℕ) → parent_of more ≡ parent
    → is_swept_at objects more.owner ≡ false
    → map (slot_state objects) (slots ++ more ∷ []) ≡ map (slot_state objects) slots ++ tagged_slot more.capability parent ∷ []
slots-push objects slots more parent is_parent tagged =
    map_push (slot_state objects) slots more
    ∙ (λ i. map (slot_state objects) slots ++ record { capability = more.capability; revoked = tagged i; parent = is_parent i } ∷ [])

-- an object more, and its slot
pub slots-first : (objects : List PlannedObject) (made : PlannedObject) (slots : List Slot) (more : Slot) (parent : Option ℕ) → parent_of more ≡ parent
    → is_held made.state ≡ true → more.owner ≡ length objects + 1
    → map (slot_state (objects ++ made ∷ [])) (slots ++ more ∷ [])
    ≡ map (slot_state objects) slots ++ tagged_slot more.capability parent ∷ []
slots-first objects made slots more parent is_parent held next =
    slots-made objects made held (slots ++ more ∷ [])
    ∙ slots-push objects slots more parent is_parent (told-next (λ object. not (is_held object.state)) objects more.owner next)

-- what a sweep makes of the mark of an object
mark-swept : (object : PlannedObject) → not (is_held (plan_swept object).state) ≡ (not (is_held object.state) || is_freed object.state)
mark-swept object = by_state object.state refl
  where
    by_state : (state : ObjectState) → object.state ≡ state → not (is_held (plan_swept object).state) ≡ (not (is_held object.state) || is_freed object.state)
    by_state Live is =
        ap (λ (s : ObjectState). not (is_held (cond (is_freed s) (record object { state = Swept }) object).state)) is
        ∙ ap (λ (s : ObjectState). not (is_held s)) is ∙ sym (ap (λ (s : ObjectState). not (is_held s) || is_freed s) is)
    by_state Freed is =
        ap (λ (s : ObjectState). not (is_held (cond (is_freed s) (record object { state = Swept }) object).state)) is
        ∙ sym (ap (λ (s : ObjectState). not (is_held s) || is_freed s) is)
    by_state Swept is =
        ap (λ (s : ObjectState). not (is_held (cond (is_freed s) (record object { state = Swept }) object).state)) is
        ∙ ap (λ (s : ObjectState). not (is_held s)) is ∙ sym (ap (λ (s : ObjectState). not (is_held s) || is_freed s) is)

-- after a sweep an object is plan_swept if it was, or was freed
pub swept-at : (objects : List PlannedObject) (number : ℕ)
    → is_swept_at (map plan_swept objects) number ≡ (is_swept_at objects number || is_freed_at objects number)
swept-at objects number =
    told-map (λ object. not (is_held object.state)) plan_swept objects number
    ∙ ap (λ (test : PlannedObject → Bool). tells test objects number) (λ i object. mark-swept object i)
    ∙ by_found (object_numbered objects number)
  where
    by_found : (found : Option PlannedObject)
        → unwrap_or (option_map (λ object. not (is_held object.state) || is_freed object.state) found) false
        ≡ (unwrap_or (option_map (λ object. not (is_held object.state)) found) false || unwrap_or (option_map (λ object. is_freed object.state) found) false)
    by_found None = refl
    by_found (Some object) = refl

-- after a sweep no object is freed
pub freed-at-swept : (objects : List PlannedObject) (number : ℕ) → is_freed_at (map plan_swept objects) number ≡ false
freed-at-swept objects number =
    told-map (λ object. is_freed object.state) plan_swept objects number
    ∙ ap (λ (test : PlannedObject → Bool). tells test objects number) (λ i object. unmarked object i)
    ∙ by_found (object_numbered objects number)
  where
    by_state : (object : PlannedObject) (state : ObjectState) → object.state ≡ state → is_freed (plan_swept object).state ≡ false
    by_state object Live is =
        ap (λ (s : ObjectState). is_freed (cond (is_freed s) (record object { state = Swept }) object).state) is ∙ ap is_freed is
    by_state object Freed is = ap (λ (s : ObjectState). is_freed (cond (is_freed s) (record object { state = Swept }) object).state) is
    by_state object Swept is =
        ap (λ (s : ObjectState). is_freed (cond (is_freed s) (record object { state = Swept }) object).state) is ∙ ap is_freed is

    unmarked : (object : PlannedObject) → is_freed (plan_swept object).state ≡ false
    unmarked object = by_state object object.state refl

    by_found : (found : Option PlannedObject) → unwrap_or (option_map (λ _. false) found) false ≡ false
    by_found None = refl
    by_found (Some object) = refl

-- no object is both plan_swept and freed
pub not-both : (objects : List PlannedObject) (number : ℕ) → is_swept_at objects number ≡ true → is_freed_at objects number ≡ false
not-both objects number is = by_found (object_numbered objects number) is
  where
    by_state : (state : ObjectState) → not (is_held state) ≡ true → is_freed state ≡ false
    by_state Live is = refl
    by_state Freed is = cc
    by_state Swept is = refl

    by_found : (found : Option PlannedObject) → unwrap_or (option_map (λ object. not (is_held object.state)) found) false ≡ true
        → unwrap_or (option_map (λ object. is_freed object.state) found) false ≡ false
    by_found None is = refl
    by_found (Some object) is = by_state object.state is

-- a slot of the state is kept as one
pub record IsKeptSlot (objects : List PlannedObject) (slots : List Slot) (number : ℕ) (slot : SlotState) : Type 0 where
  pub kept : Slot
  pub found : slice_get slots number ≡ Some kept
  pub is : slot ≡ slot_state objects kept

pub kept-slot : (objects : List PlannedObject) (slots : List Slot) (number : ℕ) (slot : SlotState)
    → slice_get (map (slot_state objects) slots) number ≡ Some slot → IsKeptSlot objects slots number slot
kept-slot objects slots number slot found =
    by_found (slice_get slots number) refl (sym (slice_get-map (slot_state objects) slots number) ∙ found)
  where
    by_found : (there : Option Slot) → slice_get slots number ≡ there → option_map (slot_state objects) there ≡ Some slot
        → IsKeptSlot objects slots number slot
    by_found None at is = cc
    by_found (Some kept) at is = record { kept = kept; found = at; is = (let e : Some (slot_state objects kept) ≡ Some slot = is in cc) }

-- the owner of a slot
pub owner-of : (slots : List Slot) (number : ℕ) (kept : Slot) → slice_get slots number ≡ Some kept
    → slice_index (map (λ (s : Slot). s.owner) slots) number ≡ kept.owner
owner-of slots number kept found =
    get_or_from_slice_get (map (λ (s : Slot). s.owner) slots) number kept.owner 0
    (slice_get-map (λ (s : Slot). s.owner) slots number ∙ ap (λ (o : Option Slot). option_map (λ (s : Slot). s.owner) o) found)

-- ---- the numbers of slots

-- what a test adds to a count
abbrev weight : Bool → ℕ
weight b = cond b 1 0

weight-suc : (one other : ℕ) → weight (nat_eq (suc one) (suc other)) ≡ weight (nat_eq one other)
weight-suc one other = elim (cases_eq one other) [
  | inl same ↦
      let here : weight (nat_eq one other) ≡ 1 = ap weight (eq-eqb one other same) in
      let next : weight (nat_eq (suc one) (suc other)) ≡ 1 = ap weight (eq-eqb (suc one) (suc other) (ap suc same)) in
      omega (arith, here, next)
  | inr differ ↦
      let here : weight (nat_eq one other) ≡ 0 = ap weight (ne_eqb one other differ) in
      let next : weight (nat_eq (suc one) (suc other)) ≡ 0 =
      ap weight (ne_eqb (suc one) (suc other) (λ same. differ (omega (arith, same)))) in
      omega (arith, here, next)
]

-- two tests of which at most one holds count what either counts
count_by-apart : (one other both : Slot → Bool) → ((slot : Slot) → weight (both slot) ≡ weight (one slot) + weight (other slot)) → (slots : List Slot)
    → count_by both slots ≡ count_by one slots + count_by other slots
count_by-apart one other both each [] = refl
count_by-apart one other both each (slot ∷ slots) =
    let rest = count_by-apart one other both each slots in
    let here = each slot in
    omega (
      arith,
      rest,
      here,
      sum_by-cons (λ s. weight (both s)) slot slots,
      sum_by-cons (λ s. weight (one s)) slot slots,
      sum_by-cons (λ s. weight (other s)) slot slots,
    )

-- a count of what is nowhere
count_by-none : (test : Slot → Bool) → ((slot : Slot) → test slot ≡ false) → (slots : List Slot) → count_by test slots ≡ 0
count_by-none test none [] = refl
count_by-none test none (slot ∷ slots) =
    let rest = count_by-none test none slots in
    let here : weight (test slot) ≡ 0 = ap weight (none slot) in
    omega (arith, rest, here, sum_by-cons (λ s. weight (test s)) slot slots)

-- the slots whose objects are plan_swept by a sweep are counted as revoked after it
pub revoked-swept : (objects : List PlannedObject) (slots : List Slot)
    → revoked_count (map (slot_state (map plan_swept objects)) slots) ≡ revoked_count (map (slot_state objects) slots) + freed_slot_count objects slots
revoked-swept objects slots =
    counted (map plan_swept objects) slots
    ∙ count_by-apart (λ slot. is_swept_at objects slot.owner) (λ slot. is_freed_at objects slot.owner)
    (λ slot. is_swept_at (map plan_swept objects) slot.owner) each slots
    ∙ ap (λ (n : ℕ). n + freed_slot_count objects slots) (sym (counted objects slots))
  where
    counted : (planned : List PlannedObject) (slots : List Slot) → revoked_count (map (slot_state planned) slots) ≡ count_by (λ slot. is_swept_at planned slot.owner) slots
    counted planned [] = refl
    counted planned (slot ∷ slots) =
        omega (
          arith,
          counted planned slots,
          sum_by-cons (λ (s : SlotState). weight s.revoked) (slot_state planned slot) (map (slot_state planned) slots),
          sum_by-cons (λ (s : Slot). weight (is_swept_at planned s.owner)) slot slots,
        )

    either : (was freed : Bool) → (was ≡ true → freed ≡ false) → weight (was || freed) ≡ weight was + weight freed
    either true true apart = let e = apart refl in cc
    either true false apart = refl
    either false true apart = refl
    either false false apart = refl

    each : (slot : Slot) → weight (is_swept_at (map plan_swept objects) slot.owner) ≡ weight (is_swept_at objects slot.owner) + weight (is_freed_at objects slot.owner)
    each slot =
        ap weight (swept-at objects slot.owner)
        ∙ either (is_swept_at objects slot.owner) (is_freed_at objects slot.owner) (not-both objects slot.owner)

-- ---- the counts of a machine

pub CountsSlots-initial : (root : Slot) → root.owner ≡ 0 → CountsSlots [] (root ∷ []) (1 ∷ []) 0
CountsSlots-initial root none = record { as_many = refl; each = each; all_freed = freed }
  where
    freed : 0 ≡ freed_slot_count [] (root ∷ [])
    freed = sym (count_by-none (λ slot. is_freed_at [] slot.owner) (λ slot. none_freed slot.owner) (root ∷ []))
      where
        none_freed : (owner : ℕ) → is_freed_at [] owner ≡ false
        none_freed zero = refl
        none_freed (suc place) = refl

    each : (owner : ℕ) → owner < length {A = ℕ} (1 ∷ []) → slice_index (1 ∷ []) owner ≡ owned_count owner (root ∷ [])
    each zero within = sym (ap (λ (n : ℕ). owned_count 0 (record root { owner = n } ∷ [])) none)
    each (suc owner) within = absurd (omega (arith, within))

-- one more slot, of an existing object or of none
pub CountsSlots-push : (objects : List PlannedObject) (slots : List Slot) (counts : List ℕ) (freed : ℕ) (more : Slot)
    → CountsSlots objects slots counts freed → more.owner ≤ length objects
    → CountsSlots objects (slots ++ more ∷ []) (set counts more.owner (slice_index counts more.owner + 1)) (freed + weight (is_freed_at objects more.owner))
CountsSlots-push objects slots counts freed more told fits = record {
  as_many = length-set counts more.owner (slice_index counts more.owner + 1) ∙ told.as_many;
  each = each;
  all_freed = omega (arith, told.all_freed, sum_by_push (λ slot. weight (is_freed_at objects slot.owner)) slots more);
}
  where
    now : List ℕ
    now = set counts more.owner (slice_index counts more.owner + 1)

    each : (owner : ℕ) → owner < length now → slice_index now owner ≡ owned_count owner (slots ++ more ∷ [])
    each owner within =
        let long = length-set counts more.owner (slice_index counts more.owner + 1) in
        let pushed = sum_by_push (λ (slot : Slot). weight (nat_eq slot.owner owner)) slots more in
        let was = told.each owner (omega (arith, within, long)) in
        elim (cases_eq more.owner owner) [
          | inl at ↦
              let one : weight (nat_eq more.owner owner) ≡ 1 = ap weight (eq-eqb more.owner owner at) in
              let here : slice_index now more.owner ≡ slice_index counts more.owner + 1 =
              get_or-set_same counts more.owner (slice_index counts more.owner + 1) 0 (omega (arith, at, within, long)) in
              let mine : slice_index now owner ≡ slice_index counts owner + 1 =
              subst (λ (n : ℕ). slice_index now n ≡ slice_index counts n + 1) at here in
              omega (arith, mine, one, pushed, was)
          | inr other ↦
              let none : weight (nat_eq more.owner owner) ≡ 0 = ap weight (ne_eqb more.owner owner other) in
              let there : slice_index now owner ≡ slice_index counts owner =
              get_or-set_other counts more.owner owner (slice_index counts more.owner + 1) 0 (λ same. other (sym same)) in
              omega (arith, there, none, pushed, was)
        ]

-- an object more, and its slot
pub CountsSlots-made : (objects : List PlannedObject) (slots : List Slot) (counts : List ℕ) (freed : ℕ) (made : PlannedObject) (more : Slot)
    → CountsSlots objects slots counts freed → made.state ≡ Live → more.owner ≡ length objects + 1
    → ((slot : ℕ) → slice_index (map (λ (s : Slot). s.owner) slots) slot ≤ length objects)
    → CountsSlots (objects ++ made ∷ []) (slots ++ more ∷ []) (counts ++ 1 ∷ []) freed
CountsSlots-made objects slots counts freed made more told live next fits = record {
  as_many = omega (arith, told.as_many, length_push counts 1, length_push objects made);
  each = each;
  all_freed =
      let unmarked = told-push (λ object. is_freed object.state) objects made (ap is_freed live) in
      let tests : (λ (slot : Slot). is_freed_at (objects ++ made ∷ []) slot.owner) ≡ (λ (slot : Slot). is_freed_at objects slot.owner) =
      λ i slot. unmarked slot.owner i in
      let last : weight (is_freed_at (objects ++ made ∷ []) more.owner) ≡ 0 =
      ap weight (unmarked more.owner ∙ told-next (λ object. is_freed object.state) objects more.owner next) in
      let whole : freed_slot_count (objects ++ made ∷ []) slots ≡ freed_slot_count objects slots = ap (λ (test : Slot → Bool). count_by test slots) tests in
      omega (arith, told.all_freed, whole, last, sum_by_push (λ slot. weight (is_freed_at (objects ++ made ∷ []) slot.owner)) slots more);
}
  where
    -- no slot that was there has the new owner
    none_next : (list : List Slot) → ((slot : ℕ) → slice_index (map (λ (s : Slot). s.owner) list) slot ≤ length objects)
        → owned_count (length objects + 1) list ≡ 0
    none_next [] fit = refl
    none_next (slot ∷ list) fit =
        let low = fit 0 in
        let here : weight (nat_eq slot.owner (length objects + 1)) ≡ 0 =
        ap weight (ne_eqb slot.owner (length objects + 1) (λ same. absurd (omega (arith, same, low)))) in
        omega (
          arith,
          none_next list (λ k. fit (suc k)),
          here,
          sum_by-cons (λ (s : Slot). weight (nat_eq s.owner (length objects + 1))) slot list,
        )

    each : (owner : ℕ) → owner < length (counts ++ 1 ∷ []) → slice_index (counts ++ 1 ∷ []) owner ≡ owned_count owner (slots ++ more ∷ [])
    each owner within =
        let pushed = sum_by_push (λ (slot : Slot). weight (nat_eq slot.owner owner)) slots more in
        elim (cases_eq more.owner owner) [
          | inl at ↦
              let one : weight (nat_eq more.owner owner) ≡ 1 = ap weight (eq-eqb more.owner owner at) in
              let is : length objects + 1 ≡ owner = sym next ∙ at in
              let none : owned_count owner slots ≡ 0 = subst (λ (n : ℕ). owned_count n slots ≡ 0) is (none_next slots fits) in
              let here : slice_index (counts ++ 1 ∷ []) owner ≡ 1 = get_or_push counts 1 0 owner (omega (arith, told.as_many, is)) in
              omega (arith, here, one, none, pushed)
          | inr other ↦
              let none : weight (nat_eq more.owner owner) ≡ 0 = ap weight (ne_eqb more.owner owner other) in
              let early : owner < length counts =
              omega (arith, within, length_push counts 1, told.as_many, (λ (same : owner ≡ length objects + 1). other (next ∙ sym same))) in
              let there : slice_index (counts ++ 1 ∷ []) owner ≡ slice_index counts owner = get_or_append_left counts (1 ∷ []) 0 owner early in
              omega (arith, there, none, pushed, told.each owner early)
        ]

-- a live object is freed
pub CountsSlots-freed : (objects : List PlannedObject) (slots : List Slot) (counts : List ℕ) (freed : ℕ) (number : ℕ) (object : PlannedObject)
    → CountsSlots objects slots counts freed → slice_get objects number ≡ Some object → object.state ≡ Live
    → CountsSlots (set objects number (record object { state = Freed })) slots counts (freed + slice_index counts (suc number))
CountsSlots-freed objects slots counts freed number object told found live = record {
  as_many = omega (arith, told.as_many, length-set objects number (record object { state = Freed }));
  each = told.each;
  all_freed =
      let within = slice_get_within objects number object found in
      let own = told.each (suc number) (omega (arith, within, told.as_many)) in
      let both =
      count_by-apart (λ slot. is_freed_at objects slot.owner) (λ slot. nat_eq slot.owner (suc number))
      (λ slot. is_freed_at (set objects number (record object { state = Freed })) slot.owner) (λ slot. each slot.owner) slots in
      omega (arith, told.all_freed, own, both);
}
  where
    at : (list : List PlannedObject) (k place : ℕ) → slice_get list k ≡ Some object
        → weight (unwrap_or (option_map (λ o. is_freed o.state) (slice_get (set list k (record object { state = Freed })) place)) false)
        ≡ weight (unwrap_or (option_map (λ o. is_freed o.state) (slice_get list place)) false) + weight (nat_eq place k)
    at [] k place is = cc
    at (first ∷ list) zero zero is =
        let e : first ≡ object = cc in
        let f : is_freed first.state ≡ false = ap (λ (o : PlannedObject). is_freed o.state) e ∙ ap is_freed live in
        let g : weight (nat_eq 0 0) ≡ 1 = ap weight (eq-eqb 0 0 refl) in
        let h : weight (is_freed first.state) ≡ 0 = ap weight f in
        omega (arith, g, h)
    at (first ∷ list) zero (suc place) is =
        let e : weight (nat_eq (suc place) 0) ≡ 0 = ap weight (ne_eqb (suc place) 0 (λ same. absurd (omega (arith, same)))) in
        omega (arith, e)
    at (first ∷ list) (suc k) zero is =
        let e : weight (nat_eq 0 (suc k)) ≡ 0 = ap weight (ne_eqb 0 (suc k) (λ same. absurd (omega (arith, same)))) in
        omega (arith, e)
    at (first ∷ list) (suc k) (suc place) is = omega (arith, at list k place is, weight-suc place k)

    each : (owner : ℕ) → weight (is_freed_at (set objects number (record object { state = Freed })) owner)
        ≡ weight (is_freed_at objects owner) + weight (nat_eq owner (suc number))
    each zero =
        let e : weight (nat_eq 0 (suc number)) ≡ 0 = ap weight (ne_eqb 0 (suc number) (λ same. absurd (omega (arith, same)))) in
        omega (arith, e)
    each (suc place) = omega (arith, at objects number place found, weight-suc place number)

-- a sweep
pub CountsSlots-swept : (objects : List PlannedObject) (slots : List Slot) (counts : List ℕ) (freed : ℕ)
    → CountsSlots objects slots counts freed → CountsSlots (map plan_swept objects) slots counts 0
CountsSlots-swept objects slots counts freed told = record {
  as_many = omega (arith, told.as_many, length-map objects plan_swept);
  each = told.each;
  all_freed = sym (count_by-none (λ slot. is_freed_at (map plan_swept objects) slot.owner) (λ slot. freed-at-swept objects slot.owner) slots);
}

-- counts are no more than the slots
pub count-within : (objects : List PlannedObject) (slots : List Slot) (counts : List ℕ) (freed owner : ℕ) → CountsSlots objects slots counts freed
    → owner < length counts → slice_index counts owner ≤ length slots
count-within objects slots counts freed owner told within =
    let is = told.each owner within in
    omega (arith, is, count_by-le-length (λ (slot : Slot). nat_eq slot.owner owner) slots)

pub freed-within : (objects : List PlannedObject) (slots : List Slot) (counts : List ℕ) (freed : ℕ) → CountsSlots objects slots counts freed
    → freed ≤ length slots
freed-within objects slots counts freed told =
    omega (arith, told.all_freed, count_by-le-length (λ (slot : Slot). is_freed_at objects slot.owner) slots)
