-- A heap's memory and the objects of a plan that are live and freed alike.
use Rattle.std.proofs.Common.{ℕ, zero, suc, Bool, true, false, cond, if◌then◌else◌, ◌&&◌, ◌≡◌, ◌+◌, ◌<◌, ◌≤◌, nat_eq, List, [], ◌∷◌, ◌++◌, Some, None, map, set, length, sum_by, slice_get, arith}
use Rattle.std.proofs.Common.{refl, sym, ap, subst, ◌∙◌, inl, inr}
use Rattle.std.proofs.lemmas.Bool.{cases_lt}
use Rattle.std.proofs.lemmas.Bool.Decides.{nat_tests}
use Rattle.std.proofs.lemmas.List.{length_push, length-map, length-set}
use Rattle.std.proofs.lemmas.List.Sums.{sum_by-cons, sum_by_push, sum_by-append}
use Rattle.cc_bounds.specs.declared.span.Span.{Span}
use Rattle.cc_placer.specs.Placement.{HaveSameSpans}
use Rattle.cc_placer.proofs.SameSpansLemmas.{permutation_from_sums}
use Rattle.cc_plan.specs.declared.planned_object.ObjectState.{ObjectState}
use Rattle.cc_plan.specs.declared.planned_object.ObjectState.TheVariants.{Live, Freed, Swept}
use Rattle.cc_plan.specs.PlannedObject.{PlannedObject}
use Rattle.cc_plan.specs.Plan.{plan_spans as planned_spans, is_freed, plan_swept as planned_swept}
use Rattle.cc_plan.proofs.HeldSpanLemmas.{as_freed, held_weight, sum_held}
use Rattle.cc_heap.specs.declared.object.Object.{Object}
use Rattle.cc_heap.specs.Memory.{Memory, memory_spans, object_span}
use Rattle.cc_replay.specs.Operations.{Numbers, with_number}
use Rattle.cc_replay.specs.Kept.{id_weight}
use Rattle.cc_replay.proofs.EntryLemmas.{HasOneMore, itself, once_more}

-- ---- sums over the objects of a plan

-- whether an object is live
abbrev pub is_live : ObjectState → Bool
is_live Live = true
is_live _ = false

-- a live object, by its number and its span
abbrev pub live_term : (ℕ → Span → ℕ) → (number : ℕ) → PlannedObject → ℕ
live_term weight number object = cond (is_live object.state) (weight number object.span) 0

-- the sum over live objects, the first of which has the number after this one
abbrev pub live_sum : (ℕ → Span → ℕ) → (before : ℕ) → List PlannedObject → ℕ
live_sum weight before [] = 0
live_sum weight before (object ∷ objects) = live_term weight (suc before) object + live_sum weight (suc before) objects

-- a freed object, by its span
abbrev pub freed_weight : (Span → ℕ) → PlannedObject → ℕ
freed_weight weight object = cond (is_freed object.state) (weight object.span) 0

-- ---- one more object

live_push : (weight : ℕ → Span → ℕ) (before : ℕ) (objects : List PlannedObject) (object : PlannedObject)
    → live_sum weight before (objects ++ object ∷ [])
    ≡ live_sum weight before objects + live_term weight (suc (before + length objects)) object
live_push weight before [] object =
    let at : suc (before + 0) ≡ suc before = omega arith in
    let same : live_term weight (suc (before + 0)) object ≡ live_term weight (suc before) object =
    ap (λ (n : ℕ). live_term weight n object) at in
    omega (arith, same)
live_push weight before (first ∷ objects) object =
    let rest = live_push weight (suc before) objects object in
    let at : suc (suc before + length objects) ≡ suc (before + suc (length objects)) = omega arith in
    let same : live_term weight (suc (suc before + length objects)) object
    ≡ live_term weight (suc (before + suc (length objects))) object =
    ap (λ (n : ℕ). live_term weight n object) at in
    omega (arith, rest, same)

-- ---- another object in the place of one

live_set : (weight : ℕ → Span → ℕ) (before : ℕ) (objects : List PlannedObject) (position : ℕ)
    (old object : PlannedObject) → slice_get objects position ≡ Some old
    → live_sum weight before (set objects position object) + live_term weight (suc (before + position)) old
    ≡ live_sum weight before objects + live_term weight (suc (before + position)) object
live_set weight before [] position old object is = absurd (never is)
  where
    never : None ≡ Some old → ⊥
    never found = cc
live_set weight before (first ∷ objects) zero old object is =
    let one : first ≡ old = same_some first old is in
    let at : suc (before + 0) ≡ suc before = omega arith in
    let was : live_term weight (suc before) first ≡ live_term weight (suc (before + 0)) old =
    ap (λ (o : PlannedObject). live_term weight (suc before) o) one
    ∙ ap (λ (n : ℕ). live_term weight n old) (sym at) in
    let is_now : live_term weight (suc before) object ≡ live_term weight (suc (before + 0)) object =
    ap (λ (n : ℕ). live_term weight n object) (sym at) in
    omega (arith, was, is_now)
  where
    same_some : (one other : PlannedObject) → Some one ≡ Some other → one ≡ other
    same_some one other found = cc
live_set weight before (first ∷ objects) (suc position) old object is =
    let rest = live_set weight (suc before) objects position old object is in
    let at : suc (suc before + position) ≡ suc (before + suc position) = omega arith in
    let was : live_term weight (suc (suc before + position)) old ≡ live_term weight (suc (before + suc position)) old =
    ap (λ (n : ℕ). live_term weight n old) at in
    let is_now : live_term weight (suc (suc before + position)) object
    ≡ live_term weight (suc (before + suc position)) object =
    ap (λ (n : ℕ). live_term weight n object) at in
    omega (arith, rest, was, is_now)

freed_set : (weight : Span → ℕ) (objects : List PlannedObject) (position : ℕ) (old object : PlannedObject)
    → slice_get objects position ≡ Some old
    → sum_by (freed_weight weight) (set objects position object) + freed_weight weight old
    ≡ sum_by (freed_weight weight) objects + freed_weight weight object
freed_set weight [] position old object is = absurd (never is)
  where
    never : None ≡ Some old → ⊥
    never found = cc
freed_set weight (first ∷ objects) zero old object is =
    let was : freed_weight weight first ≡ freed_weight weight old =
    ap (freed_weight weight) (same_some first old is) in
    omega (arith, was, sum_by-cons (freed_weight weight) first objects, sum_by-cons (freed_weight weight) object objects)
  where
    same_some : (one other : PlannedObject) → Some one ≡ Some other → one ≡ other
    same_some one other found = cc
freed_set weight (first ∷ objects) (suc position) old object is =
    let rest = freed_set weight objects position old object is in
    omega (
      arith,
      rest,
      sum_by-cons (freed_weight weight) first objects,
      sum_by-cons (freed_weight weight) first (set objects position object),
    )

-- ---- a sweep

live_term-swept : (weight : ℕ → Span → ℕ) (number size : ℕ) (span : Span) (state : ObjectState)
    → live_term weight number (planned_swept (record { size = size; span = span; state = state }))
    ≡ live_term weight number (record { size = size; span = span; state = state })
live_term-swept weight number size span Live = refl
live_term-swept weight number size span Freed = refl
live_term-swept weight number size span Swept = refl

live_swept : (weight : ℕ → Span → ℕ) (before : ℕ) (objects : List PlannedObject)
    → live_sum weight before (map planned_swept objects) ≡ live_sum weight before objects
live_swept weight before [] = refl
live_swept weight before (object ∷ objects) =
    let first = live_term-swept weight (suc before) object.size object.span object.state in
    let rest = live_swept weight (suc before) objects in
    omega (arith, first, rest)

freed_weight-swept : (weight : Span → ℕ) (size : ℕ) (span : Span) (state : ObjectState)
    → freed_weight weight (planned_swept (record { size = size; span = span; state = state })) ≡ 0
freed_weight-swept weight size span Live = refl
freed_weight-swept weight size span Freed = refl
freed_weight-swept weight size span Swept = refl

freed_swept : (weight : Span → ℕ) (objects : List PlannedObject)
    → sum_by (freed_weight weight) (map planned_swept objects) ≡ 0
freed_swept weight [] = refl
freed_swept weight (object ∷ objects) =
    let first = freed_weight-swept weight object.size object.span object.state in
    let rest = freed_swept weight objects in
    omega (arith, first, rest, sum_by-cons (freed_weight weight) (planned_swept object) (map planned_swept objects))

-- ---- held objects are live or freed

held_term : (weight : Span → ℕ) (number size : ℕ) (span : Span) (state : ObjectState)
    → held_weight weight (record { size = size; span = span; state = state })
    ≡ live_term (λ n s. weight s) number (record { size = size; span = span; state = state })
    + freed_weight weight (record { size = size; span = span; state = state })
held_term weight number size span Live = omega arith
held_term weight number size span Freed = omega arith
held_term weight number size span Swept = omega arith

held_parts : (weight : Span → ℕ) (before : ℕ) (objects : List PlannedObject)
    → sum_by (held_weight weight) objects
    ≡ live_sum (λ n s. weight s) before objects + sum_by (freed_weight weight) objects
held_parts weight before [] = refl
held_parts weight before (object ∷ objects) =
    let first = held_term weight (suc before) object.size object.span object.state in
    let rest = held_parts weight (suc before) objects in
    omega (
      arith,
      first,
      rest,
      sum_by-cons (held_weight weight) object objects,
      sum_by-cons (freed_weight weight) object objects,
    )

-- ---- a live object that weighs something

pub record IsAmongLive (weight : ℕ → Span → ℕ) (before : ℕ) (objects : List PlannedObject) : Type 0 where
  pub position : ℕ
  pub object : PlannedObject
  pub at : slice_get objects position ≡ Some object
  pub live : object.state ≡ Live
  pub some : 0 < weight (suc (before + position)) object.span

live_found : (weight : ℕ → Span → ℕ) (before : ℕ) (objects : List PlannedObject)
    → 0 < live_sum weight before objects → IsAmongLive weight before objects
live_found weight before [] some = absurd (omega (arith, some))
live_found weight before (object ∷ objects) some =
    by_state object.state refl (live_found weight (suc before) objects)
  where
    later : IsAmongLive weight (suc before) objects → IsAmongLive weight before (object ∷ objects)
    later found =
        let at : suc (suc before + found.position) ≡ suc (before + suc found.position) = omega arith in
        record {
          position = suc found.position;
          object = found.object;
          at = found.at;
          live = found.live;
          some = subst (λ (n : ℕ). 0 < weight n found.object.span) at found.some;
        }

    by_state : (state : ObjectState) → object.state ≡ state
        → (0 < live_sum weight (suc before) objects → IsAmongLive weight (suc before) objects)
        → IsAmongLive weight before (object ∷ objects)
    by_state Live is rest = elim (cases_lt 0 (weight (suc before) object.span)) [
      | inl here ↦
          let at : suc before ≡ suc (before + 0) = omega arith in
          record {
            position = 0;
            object = object;
            at = refl;
            live = is;
            some = subst (λ (n : ℕ). 0 < weight n object.span) at here;
          }
      | inr none ↦
          let term : live_term weight (suc before) object ≡ weight (suc before) object.span =
          ap (λ (s : ObjectState). cond (is_live s) (weight (suc before) object.span) 0) is in
          later (rest (omega (arith, some, none, term)))
    ]
    by_state Freed is rest =
        let term : live_term weight (suc before) object ≡ 0 =
        ap (λ (s : ObjectState). cond (is_live s) (weight (suc before) object.span) 0) is in
        later (rest (omega (arith, some, term)))
    by_state Swept is rest =
        let term : live_term weight (suc before) object ≡ 0 =
        ap (λ (s : ObjectState). cond (is_live s) (weight (suc before) object.span) 0) is in
        later (rest (omega (arith, some, term)))

-- ---- a memory and a plan

-- an entry of a heap, by the number of its id and its span
abbrev pub entry_weight : Numbers → (ℕ → Span → ℕ) → ℕ × Object → ℕ
entry_weight numbers weight entry = weight (numbers.number_of entry.0) (object_span entry)

-- the objects of the plan are live and freed as those of the memory, and those under ids have their numbers
pub record HoldAlike (numbers : Numbers) (memory : Memory) (objects : List PlannedObject) : Type 0 where
  pub made : numbers.made ≡ length objects
  pub live : (weight : ℕ → Span → ℕ) → sum_by (entry_weight numbers weight) memory.live ≡ live_sum weight 0 objects
  pub freed : (weight : Span → ℕ) → sum_by weight memory.quarantined ≡ sum_by (freed_weight weight) objects
  pub ids : (id : ℕ) → sum_by (id_weight id) memory.live ≤ 1

sum_spans : (weight : Span → ℕ) (entries : List (ℕ × Object))
    → sum_by weight (map object_span entries) ≡ sum_by (λ (entry : ℕ × Object). weight (object_span entry)) entries
sum_spans weight [] = refl
sum_spans weight (entry ∷ entries) =
    let rest = sum_spans weight entries in
    omega (
      arith,
      rest,
      sum_by-cons weight (object_span entry) (map object_span entries),
      sum_by-cons (λ (e : ℕ × Object). weight (object_span e)) entry entries,
    )

pub hold_same_spans : (numbers : Numbers) (memory : Memory) (objects : List PlannedObject)
    → HoldAlike numbers memory objects → HaveSameSpans (memory_spans memory) (planned_spans objects)
hold_same_spans numbers memory objects alike =
    permutation_from_sums (map object_span memory.live ++ memory.quarantined) (planned_spans objects) (λ weight.
    let live : sum_by (λ (entry : ℕ × Object). weight (object_span entry)) memory.live ≡ live_sum (λ n s. weight s) 0 objects =
    alike.live (λ n s. weight s) in
    let parts : sum_by (held_weight weight) objects
    ≡ live_sum (λ n s. weight s) 0 objects + sum_by (freed_weight weight) objects =
    held_parts weight 0 objects in
    omega (
      arith,
      sum_by-append weight (map object_span memory.live) memory.quarantined,
      sum_spans weight memory.live,
      live,
      alike.freed weight,
      parts,
      sum_held weight objects,
    ))

-- ---- ids

other_first : (id key : ℕ) (numbers : Numbers) (weight : ℕ → Span → ℕ) (object : Object) → nat_eq id key ≡ false
    → entry_weight (with_number numbers id) weight (key, object) ≡ entry_weight numbers weight (key, object)
other_first id key numbers weight object other =
    ap (λ (b : Bool). weight (if b then numbers.made + 1 else numbers.number_of key) object.span) other

-- entries of other ids keep their numbers
others_stay : (id : ℕ) (numbers : Numbers) (weight : ℕ → Span → ℕ) (entries : List (ℕ × Object))
    → sum_by (id_weight id) entries ≡ 0
    → sum_by (entry_weight (with_number numbers id) weight) entries ≡ sum_by (entry_weight numbers weight) entries
others_stay id numbers weight [] none = refl
others_stay id numbers weight ((key, object) ∷ entries) none =
    let counted = sum_by-cons (id_weight id) (key, object) entries in
    let rest = others_stay id numbers weight entries (omega (arith, none, counted)) in
    let other : nat_eq id key ≡ false = by_test (nat_eq id key) refl (omega (arith, none, counted)) in
    let first = other_first id key numbers weight object other in
    omega (
      arith,
      first,
      rest,
      sum_by-cons (entry_weight (with_number numbers id) weight) (key, object) entries,
      sum_by-cons (entry_weight numbers weight) (key, object) entries,
    )
  where
    by_test : (b : Bool) → nat_eq id key ≡ b → id_weight id (key, object) ≡ 0 → nat_eq id key ≡ false
    by_test true is zero_is =
        let one : id_weight id (key, object) ≡ 1 = ap (λ (t : Bool). cond t 1 0) is in
        absurd (omega (arith, one, zero_is))
    by_test false is zero_is = is

-- ---- the changes of both

-- the plan's object of this size and span, live
abbrev pub new_object : (size : ℕ) → Span → PlannedObject
new_object size span = record { size = size; span = span; state = Live }

pub alike_made : (numbers : Numbers) (live more : List (ℕ × Object)) (waiting : List Span)
    (objects : List PlannedObject) (id size : ℕ) (object : Object)
    → HoldAlike numbers (record { live = live; quarantined = waiting }) objects
    → sum_by (id_weight id) live ≡ 0 → HasOneMore live (id, object) more
    → HoldAlike (with_number numbers id) (record { live = more; quarantined = waiting })
    (objects ++ new_object size object.span ∷ [])
alike_made numbers live more waiting objects id size object alike none adds = record {
  made = (let made : numbers.made ≡ length objects = alike.made in
      let longer = length_push objects (new_object size object.span) in
      let now : numbers.made + 1 ≡ length (objects ++ new_object size object.span ∷ []) = omega (arith, made, longer) in
      now);
  live = λ weight.
      let made : numbers.made ≡ length objects = alike.made in
      let at : numbers.made + 1 ≡ suc (0 + length objects) = omega (arith, made) in
      let own : entry_weight (with_number numbers id) weight (id, object)
      ≡ weight (suc (0 + length objects)) object.span =
      ap (λ (b : Bool). weight (if b then numbers.made + 1 else numbers.number_of id) object.span) (itself id)
      ∙ ap (λ (n : ℕ). weight n object.span) at in
      let others : sum_by (entry_weight (with_number numbers id) weight) live
      ≡ sum_by (entry_weight numbers weight) live =
      others_stay id numbers weight live none in
      let before : sum_by (entry_weight numbers weight) live ≡ live_sum weight 0 objects = alike.live weight in
      let term : live_term weight (suc (0 + length objects)) (new_object size object.span)
      ≡ weight (suc (0 + length objects)) object.span =
      refl in
      let pushed : live_sum weight 0 (objects ++ new_object size object.span ∷ [])
      ≡ live_sum weight 0 objects + live_term weight (suc (0 + length objects)) (new_object size object.span) =
      live_push weight 0 objects (new_object size object.span) in
      let now : sum_by (entry_weight (with_number numbers id) weight) more
      ≡ live_sum weight 0 (objects ++ new_object size object.span ∷ []) =
      omega (arith, adds (entry_weight (with_number numbers id) weight), others, own, before, term, pushed) in
      now;
  freed = λ weight.
      let before : sum_by weight waiting ≡ sum_by (freed_weight weight) objects = alike.freed weight in
      let term : freed_weight weight (new_object size object.span) ≡ 0 = refl in
      let now : sum_by weight waiting ≡ sum_by (freed_weight weight) (objects ++ new_object size object.span ∷ []) =
      omega (arith, before, term, sum_by_push (freed_weight weight) objects (new_object size object.span)) in
      now;
  ids = once_more id object live more none adds alike.ids;
}

-- the live object of the plan that is one of the memory
pub record IsNumbered (numbers : Numbers) (objects : List PlannedObject) (id : ℕ) (span : Span) : Type 0 where
  pub position : ℕ
  pub object : PlannedObject
  pub at : slice_get objects position ≡ Some object
  pub live : object.state ≡ Live
  pub span_is : object.span ≡ span
  pub number_is : numbers.number_of id ≡ suc position

pub numbered : (numbers : Numbers) (live fewer : List (ℕ × Object)) (waiting : List Span)
    (objects : List PlannedObject) (id : ℕ) (object : Object)
    → HoldAlike numbers (record { live = live; quarantined = waiting }) objects
    → HasOneMore fewer (id, object) live
    → IsNumbered numbers objects id object.span
numbered numbers live fewer waiting objects id object alike takes =
    let weight : ℕ → Span → ℕ = λ n s.
    cond (nat_eq (numbers.number_of id) n && (nat_eq object.span.base s.base && nat_eq object.span.top s.top)) 1 0 in
    let own : entry_weight numbers weight (id, object) ≡ 1 =
    ap (λ (b : Bool). cond b 1 0) (all_same (numbers.number_of id) object.span.base object.span.top) in
    let before : sum_by (entry_weight numbers weight) live ≡ live_sum weight 0 objects = alike.live weight in
    let some : 0 < live_sum weight 0 objects = omega (arith, own, takes (entry_weight numbers weight), before) in
    let found = live_found weight 0 objects some in
    let at = the_same (numbers.number_of id) (suc (0 + found.position)) object.span found.object.span found.some in
    let zero_plus : suc (0 + found.position) ≡ suc found.position = omega arith in
    record {
      position = found.position;
      object = found.object;
      at = found.at;
      live = found.live;
      span_is = at.1;
      number_is = at.0 ∙ zero_plus;
    }
  where
    all_same : (n base top : ℕ) → (nat_eq n n && (nat_eq base base && nat_eq top top)) ≡ true
    all_same n base top = grind (arith, nat_tests)

    by_test : (number n : ℕ) (one other : Span) (b : Bool)
        → (nat_eq number n && (nat_eq one.base other.base && nat_eq one.top other.top)) ≡ b → 0 < cond b 1 0
        → (number ≡ n) × (other ≡ one)
    by_test number n one other true is some =
        let base : other.base ≡ one.base = grind (arith, nat_tests) in
        let top : other.top ≡ one.top = grind (arith, nat_tests) in
        let same : number ≡ n = grind (arith, nat_tests) in
        (same, λ i. record { base = base i; top = top i })
    by_test number n one other false is some = absurd (omega (arith, some))

    the_same : (number n : ℕ) (one other : Span)
        → 0 < cond (nat_eq number n && (nat_eq one.base other.base && nat_eq one.top other.top)) 1 0
        → (number ≡ n) × (other ≡ one)
    the_same number n one other some =
        by_test number n one other (nat_eq number n && (nat_eq one.base other.base && nat_eq one.top other.top)) refl some

pub alike_freed : (numbers : Numbers) (live fewer : List (ℕ × Object)) (waiting : List Span)
    (objects : List PlannedObject) (id : ℕ) (object : Object)
    → HoldAlike numbers (record { live = live; quarantined = waiting }) objects
    → HasOneMore fewer (id, object) live
    → (at : IsNumbered numbers objects id object.span)
    → HoldAlike numbers (record { live = fewer; quarantined = waiting ++ object.span ∷ [] })
    (set objects at.position (as_freed at.object))
alike_freed numbers live fewer waiting objects id object alike takes at = record {
  made = alike.made ∙ sym (length-set objects at.position (as_freed at.object));
  live = λ weight.
      let was : live_term weight (suc (0 + at.position)) at.object
      ≡ entry_weight numbers weight (id, object) =
      ap (λ (s : ObjectState). cond (is_live s) (weight (suc (0 + at.position)) at.object.span) 0) at.live
      ∙ ap (λ (s : Span). weight (suc (0 + at.position)) s) at.span_is
      ∙ ap (λ (n : ℕ). weight n object.span) (sym (number_at at.position at.number_is)) in
      let before : sum_by (entry_weight numbers weight) live ≡ live_sum weight 0 objects = alike.live weight in
      let term : live_term weight (suc (0 + at.position)) (as_freed at.object) ≡ 0 = refl in
      let written : live_sum weight 0 (set objects at.position (as_freed at.object))
      + live_term weight (suc (0 + at.position)) at.object
      ≡ live_sum weight 0 objects + live_term weight (suc (0 + at.position)) (as_freed at.object) =
      live_set weight 0 objects at.position at.object (as_freed at.object) at.at in
      let now : sum_by (entry_weight numbers weight) fewer
      ≡ live_sum weight 0 (set objects at.position (as_freed at.object)) =
      omega (arith, was, before, term, written, takes (entry_weight numbers weight)) in
      now;
  freed = λ weight.
      let was : freed_weight weight at.object ≡ 0 =
      ap (λ (s : ObjectState). cond (is_freed s) (weight at.object.span) 0) at.live in
      let is_now : freed_weight weight (as_freed at.object) ≡ weight object.span = ap weight at.span_is in
      let before : sum_by weight waiting ≡ sum_by (freed_weight weight) objects = alike.freed weight in
      let written : sum_by (freed_weight weight) (set objects at.position (as_freed at.object))
      + freed_weight weight at.object
      ≡ sum_by (freed_weight weight) objects + freed_weight weight (as_freed at.object) =
      freed_set weight objects at.position at.object (as_freed at.object) at.at in
      let now : sum_by weight (waiting ++ object.span ∷ [])
      ≡ sum_by (freed_weight weight) (set objects at.position (as_freed at.object)) =
      omega (arith, was, is_now, before, written, sum_by_push weight waiting object.span) in
      now;
  ids = λ other.
      let before : sum_by (id_weight other) live ≤ 1 = alike.ids other in
      let now : sum_by (id_weight other) fewer ≤ 1 = omega (arith, before, takes (id_weight other)) in
      now;
}
  where
    number_at : (position : ℕ) → numbers.number_of id ≡ suc position → numbers.number_of id ≡ suc (0 + position)
    number_at position is = omega (arith, is)

pub alike_swept : (numbers : Numbers) (live : List (ℕ × Object)) (waiting : List Span) (objects : List PlannedObject)
    → HoldAlike numbers (record { live = live; quarantined = waiting }) objects
    → HoldAlike numbers (record { live = live; quarantined = [] }) (map planned_swept objects)
alike_swept numbers live waiting objects alike = record {
  made = alike.made ∙ sym (length-map objects planned_swept);
  live = λ weight. alike.live weight ∙ sym (live_swept weight 0 objects);
  freed = λ weight. sym (freed_swept weight objects);
  ids = alike.ids;
}
