-- The properties of the objects that a sweep keeps.
use Rattle.std.proofs.Common.{ℕ, zero, suc, true, false, ◌≡◌, ◌⊎◌, ◌↔◌, ◌<◌, ◌∙◌, List, IsTrue, Option, Some, None, Ok, if◌then◌else◌, length, map, ok_or, option_map, refl, sym, ap, subst, inl}
use Rattle.std.proofs.Common.{inr, arith}
use Rattle.std.specs.List.{slice_get}
use Rattle.std.proofs.lemmas.List.{length-map}
use Rattle.std.proofs.lemmas.Option.{slice_get-map}
use Rattle.cc_word.specs.declared.refusal.Refusal.TheVariants.{NoObject}
use Rattle.cc_plan.specs.declared.planned_object.ObjectState.{ObjectState}
use Rattle.cc_plan.specs.declared.planned_object.ObjectState.TheVariants.{Live, Freed, Swept}
use Rattle.cc_plan.specs.Plan.{is_freed, is_held}
use Rattle.cc_machine.specs.declared.object.Object.{Object}
use Rattle.cc_values.specs.declared.reply.Reply.{Reply}
use Rattle.cc_machine.specs.State.{State, SlotState, IsSlot, IsParent, IsAncestor}
use Rattle.cc_machine.specs.Objects.{object_at, IsObject, IsPool, BelongsTo, BelongsToSome}
use Rattle.cc_machine.specs.Step.{RevokesIf, Sweeps}
use Rattle.cc_machine.specs.Objects.{swept}
use Rattle.cc_machine.proofs.SlotLemmas.{IsSlot-within, slot_at}
use Rattle.cc_machine.proofs.SameSlotsLemmas.{HaveSameSlots, HaveSameSlots-sym, IsAncestor-same}
use Rattle.cc_machine.proofs.ObjectLemmas.{ok-some}
use Rattle.cc_machine.proofs.RevokingLemmas.{RevokesFreed-same}
use Rattle.cc_machine.proofs.ObjectTreeLemmas.{KeepsObjects}
use Rattle.cc_machine.proofs.ObjectMarkedLemmas.{Was, child-marked, differ-marked, exact-marked, apart-marked, pool-of-none}

-- what a sweep leaves of an object
pub record IsSwept (object : Object) : Type 0 where
  pub same_slot : (swept object).slot ≡ object.slot
  pub same_size : (swept object).size ≡ object.size
  held : IsTrue (is_held (swept object).state) → IsTrue (is_held object.state)
  of_swept : (swept object).state ≡ Swept → (object.state ≡ Freed) ⊎ (object.state ≡ Swept)
  to_swept : ((object.state ≡ Freed) ⊎ (object.state ≡ Swept)) → (swept object).state ≡ Swept

pub is-swept : (object : Object) → IsSwept object
is-swept object = by_state object.state refl
  where
    by_state : (state : ObjectState) → object.state ≡ state → IsSwept object
    by_state Live is =
        let same : swept object ≡ object = ap (λ (s : ObjectState). if is_freed s then record object { state = Swept } else object) is in
        record {
          same_slot = ap (λ (o : Object). o.slot) same;
          same_size = ap (λ (o : Object). o.size) same;
          held = λ held. subst (λ (o : Object). IsTrue (is_held o.state)) same held;
          of_swept = λ e. (let f = ap (λ (o : Object). o.state) same in cc);
          to_swept = λ so. elim so [ inl e ↦ cc | inr e ↦ cc ];
        }
    by_state Freed is =
        let same : swept object ≡ record object { state = Swept } =
        ap (λ (s : ObjectState). if is_freed s then record object { state = Swept } else object) is in
        record {
          same_slot = ap (λ (o : Object). o.slot) same;
          same_size = ap (λ (o : Object). o.size) same;
          held = λ _. subst (λ (s : ObjectState). IsTrue (is_held s)) (sym is) refl;
          of_swept = λ _. inl is;
          to_swept = λ _. ap (λ (o : Object). o.state) same;
        }
    by_state Swept is =
        let same : swept object ≡ object = ap (λ (s : ObjectState). if is_freed s then record object { state = Swept } else object) is in
        record {
          same_slot = ap (λ (o : Object). o.slot) same;
          same_size = ap (λ (o : Object). o.size) same;
          held = λ held. subst (λ (o : Object). IsTrue (is_held o.state)) same held;
          of_swept = λ _. inr is;
          to_swept = λ _. ap (λ (o : Object). o.state) same ∙ is;
        }

-- there was an object of this number, and this is what a sweep makes of it
pub record IsBefore (objects : List Object) (number : ℕ) (object : Object) : Type 0 where
  pub before : Object
  pub found : object_at objects number ≡ Ok before
  pub is : object ≡ swept before

pub swept-at : (objects : List Object) (number : ℕ) (object : Object) → object_at (map swept objects) number ≡ Ok object → IsBefore objects number object
swept-at objects zero object found = cc
swept-at objects (suc k) object found =
    by_found (slice_get objects k) refl (sym (slice_get-map swept objects k) ∙ ok-some (slice_get (map swept objects) k) object found)
  where
    by_found : (there : Option Object) → slice_get objects k ≡ there → option_map swept there ≡ Some object → IsBefore objects (suc k) object
    by_found None is at = cc
    by_found (Some before) is at = record {
      before = before;
      found = ap (λ (o : Option Object). ok_or o NoObject) is;
      is = (let e : Some (swept before) ≡ Some object = at in cc);
    }

-- after a sweep, each object is at its number, swept if it was freed
pub swept-of : (objects : List Object) (number : ℕ) (before : Object) → object_at objects number ≡ Ok before → object_at (map swept objects) number ≡ Ok (swept before)
swept-of objects zero before found = cc
swept-of objects (suc k) before found =
    ap (λ (o : Option Object). ok_or o NoObject)
    (slice_get-map swept objects k ∙ ap (λ (o : Option Object). option_map swept o) (ok-some (slice_get objects k) before found))

module _ (old new : State) (reply : Reply) (sweeps : Sweeps old reply new) where
  kept : HaveSameSlots old new
  kept = RevokesFreed-same old new sweeps.revoked

  before-at : (n : ℕ) (object : Object) → IsObject new n object → IsBefore old.objects n object
  before-at n object is = swept-at old.objects n object (let e = sweeps.swept_all in let f = is.found in cc)

  pub was-swept : (n : ℕ) (object : Object) → IsObject new n object → Was old n object
  was-swept n object is =
      let it = before-at n object is in
      let told = is-swept it.before in
      record {
        before = it.before;
        is_object = record { found = it.found };
        same_slot = sym (ap (λ (o : Object). o.slot) it.is ∙ told.same_slot);
        same_size = sym (ap (λ (o : Object). o.size) it.is ∙ told.same_size);
        held = λ held. told.held (subst (λ (o : Object). IsTrue (is_held o.state)) it.is held);
      }

  -- what belongs to an object belongs to what the sweep leaves of it
  belongs-swept : (object : Object) (n : ℕ) → BelongsTo old object n → BelongsTo new (swept object) n
  belongs-swept object n (inl at) = inl (at ∙ sym (is-swept object).same_slot)
  belongs-swept object n (inr up) =
      inr (IsAncestor-same kept (subst (λ (m : ℕ). IsAncestor old m n) (sym (is-swept object).same_slot) up))

  belonged : (object : Object) (n : ℕ) → BelongsTo new (swept object) n → BelongsTo old object n
  belonged object n (inl at) = inl (at ∙ (is-swept object).same_slot)
  belonged object n (inr up) =
      inr (subst (λ (m : ℕ). IsAncestor old m n) (is-swept object).same_slot (IsAncestor-same (HaveSameSlots-sym kept) up))

  -- what belonged to a freed or a swept object belongs to a swept one
  to-swept : (of : ObjectState) (n : ℕ) → ((of ≡ Freed) ⊎ (of ≡ Swept)) → BelongsToSome old of n → BelongsToSome new Swept n
  to-swept of n so it =
      let state : (it.object.state ≡ Freed) ⊎ (it.object.state ≡ Swept) = elim so [ inl e ↦ inl (it.has_mark ∙ e) | inr e ↦ inr (it.has_mark ∙ e) ] in
      record {
        number = it.number;
        object = swept it.object;
        is_object = record { found = (let e = sweeps.swept_all in let f = swept-of old.objects it.number it.object it.is_object.found in cc) };
        has_mark = (is-swept it.object).to_swept state;
        belongs = belongs-swept it.object n it.belongs;
      }

  -- and what belongs to a swept object belonged to a freed or a swept one
  of-swept : (n : ℕ) → BelongsToSome new Swept n → BelongsToSome old Freed n ⊎ BelongsToSome old Swept n
  of-swept n it =
      let at = before-at it.number it.object it.is_object in
      let belongs = belonged at.before n (subst (λ (o : Object). BelongsTo new o n) at.is it.belongs) in
      let is_object : IsObject old it.number at.before = record { found = at.found } in
      elim ((is-swept at.before).of_swept (sym (ap (λ (o : Object). o.state) at.is) ∙ it.has_mark)) [
        | inl freed ↦ inl (record { number = it.number; object = at.before; is_object = is_object; has_mark = freed; belongs = belongs })
        | inr gone ↦ inr (record { number = it.number; object = at.before; is_object = is_object; has_mark = gone; belongs = belongs })
      ]

  module _ (order : (above below : ℕ) → IsParent old above below → above < below) (keeps : KeepsObjects old) where
    revoked-swept : (n : ℕ) (before after : SlotState) → IsSlot old n before → RevokesIf (BelongsToSome old Freed n) before after
        → (after.revoked ≡ true) ↔ BelongsToSome new Swept n
    revoked-swept n before after is (inl revoked) =
        (λ _. to-swept Freed n (inl refl) revoked.0, λ _. ap (λ (s : SlotState). s.revoked) revoked.1)
    revoked-swept n before after is (inr stays) =
        let law = keeps.revoked.revoked n before is in
        let same_mark : after.revoked ≡ before.revoked = ap (λ (s : SlotState). s.revoked) stays.1 in (
          λ marked. to-swept Swept n (inr refl) (law.0 (sym same_mark ∙ marked)),
          λ it. elim (of-swept n it) [ inl freed ↦ absurd (stays.0 freed) | inr gone ↦ same_mark ∙ law.1 gone ],
        )

    pool-swept : (n : ℕ) (before after : SlotState) → IsPool old n before → RevokesIf (BelongsToSome old Freed n) before after
        → after.revoked ≡ false
    pool-swept n before after is (inl revoked) =
        absurd (pool-of-none old order keeps revoked.0.number revoked.0.object n before revoked.0.is_object is revoked.0.belongs)
    pool-swept n before after is (inr stays) = ap (λ (s : SlotState). s.revoked) stays.1 ∙ keeps.revoked.pool_stays n before is

    pub KeepsObjects-swept : KeepsObjects new
    KeepsObjects-swept = record {
      fewer =
          let count = ap (λ (objects : List Object). length objects) sweeps.swept_all in
          omega (arith, keeps.fewer, sweeps.revoked.as_many, count, length-map old.objects swept);
      child = child-marked old new kept sweeps.pool_stays sweeps.align_stays keeps was-swept;
      differ = differ-marked old new kept sweeps.pool_stays sweeps.align_stays keeps was-swept;
      exact = record { exact = exact-marked old new kept sweeps.pool_stays sweeps.align_stays keeps was-swept };
      apart = apart-marked old new kept sweeps.pool_stays sweeps.align_stays keeps was-swept;
      revoked = record {
        revoked = λ n slot is.
            let there = slot_at old n (omega (arith, IsSlot-within is, sweeps.revoked.as_many)) in
            revoked-swept n there.slot slot there.is_slot (sweeps.revoked.each n there.slot slot there.is_slot is);
        pool_stays = λ n slot is.
            let there = slot_at old n (omega (arith, IsSlot-within is.is_slot, sweeps.revoked.as_many)) in
            pool-swept n there.slot slot (record { is_pool = sym sweeps.pool_stays ∙ is.is_pool; is_slot = there.is_slot })
            (sweeps.revoked.each n there.slot slot there.is_slot is.is_slot);
      };
    }
