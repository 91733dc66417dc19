-- What freeing an object keeps of the objects.
use Rattle.std.proofs.Common.{ℕ, ◌≡◌, ◌≢◌, ◌⊎◌, ◌-◌, ◌∙◌, List, IsTrue, length, slice_set, refl, sym, ap, subst, inl, inr, arith}
use Rattle.std.proofs.lemmas.List.{length-set}
use Rattle.std.proofs.lemmas.Bool.{cases_eq}
use Rattle.cc_plan.specs.declared.planned_object.ObjectState.{ObjectState}
use Rattle.cc_plan.specs.declared.planned_object.ObjectState.TheVariants.{Freed, Live, Swept}
use Rattle.cc_plan.specs.Plan.{is_held}
use Rattle.cc_machine.specs.declared.object.Object.{Object}
use Rattle.cc_values.specs.declared.reply.Reply.{Reply}
use Rattle.cc_machine.specs.State.{State}
use Rattle.cc_machine.specs.Objects.{IsObject, BelongsToSome}
use Rattle.cc_machine.specs.Step.{FreesObject}
use Rattle.cc_machine.proofs.SameSlotsLemmas.{HaveSameSlots, HaveSameSlots-sym, HaveSameSlots-list, BelongsTo-same, IsSlot-along}
use Rattle.cc_machine.proofs.ObjectLemmas.{IsObject-same, object_at-set, object_at-other}
use Rattle.cc_machine.proofs.ObjectTreeLemmas.{KeepsObjects}
use Rattle.cc_machine.proofs.ObjectMarkedLemmas.{Was, child-marked, differ-marked, exact-marked, apart-marked}

module _ (old new : State) (number : ℕ) (reply : Reply) (frees : FreesObject old number reply new) where
  abbrev freed : Object
  freed = record frees.object { state = Freed }

  objects_are : new.objects ≡ slice_set old.objects (number - 1) freed
  objects_are = ap (λ (s : State). s.objects) frees.is_new

  slots_are : new.slots ≡ old.slots
  slots_are = ap (λ (s : State). s.slots) frees.is_new

  kept : HaveSameSlots old new
  kept = HaveSameSlots-list old new slots_are

  -- an object is the freed one, or another, as it was
  split-freed : (n : ℕ) (object : Object) → IsObject new n object
      → ((n ≡ number) × (object ≡ freed)) ⊎ ((n ≢ number) × IsObject old n object)
  split-freed n object is = elim (cases_eq n number) [
    | inl at ↦
        let found = object_at-set old.objects number frees.object freed frees.is_live.is_object.found in
        let is_now : IsObject new number object = subst (λ (m : ℕ). IsObject new m object) at is in
        let there : IsObject new number freed = record { found = (let e = objects_are in cc) } in
        inl (at, IsObject-same is_now there)
    | inr other ↦
        let found = object_at-other old.objects number n frees.object freed frees.is_live.is_object.found other in
        inr (other, record { found = (let e = objects_are in let f = is.found in cc) })
  ]

  other_is : (n : ℕ) (object : Object) → n ≢ number → IsObject old n object → IsObject new n object
  other_is n object other is =
      let found = object_at-other old.objects number n frees.object freed frees.is_live.is_object.found other in
      record { found = (let e = objects_are in let f = is.found in cc) }

  pub was-freed : (n : ℕ) (object : Object) → IsObject new n object → Was old n object
  was-freed n object is = elim (split-freed n object is) [
    | inl at ↦ record {
      before = frees.object;
      is_object = subst (λ (m : ℕ). IsObject old m frees.object) (sym at.0) frees.is_live.is_object;
      same_slot = ap (λ (o : Object). o.slot) (sym at.1);
      same_size = ap (λ (o : Object). o.size) (sym at.1);
      held = λ _. subst (λ (s : ObjectState). IsTrue (is_held s)) (sym frees.is_live.live) refl;
    }
    | inr other ↦ record { before = object; is_object = other.1; same_slot = refl; same_size = refl; held = λ held. held }
  ]

  -- what belonged to a swept object still does
  swept-still : (n : ℕ) → BelongsToSome old Swept n → BelongsToSome new Swept n
  swept-still n it = record {
    number = it.number;
    object = it.object;
    is_object = other_is it.number it.object other it.is_object;
    has_mark = it.has_mark;
    belongs = BelongsTo-same it.object kept it.belongs;
  }
    where
      other : it.number ≢ number
      other at =
          let one : IsObject old number it.object = subst (λ (m : ℕ). IsObject old m it.object) at it.is_object in
          let e : it.object.state ≡ Live = ap (λ (o : Object). o.state) (IsObject-same one frees.is_live.is_object) ∙ frees.is_live.live in
          let f = it.has_mark in
          cc

  -- and only what did belongs to one now
  swept-before : (n : ℕ) → BelongsToSome new Swept n → BelongsToSome old Swept n
  swept-before n it = elim (split-freed it.number it.object it.is_object) [
    | inl at ↦ let e : it.object.state ≡ Freed = ap (λ (o : Object). o.state) at.1 in let f = it.has_mark in cc
    | inr other ↦ record {
      number = it.number;
      object = it.object;
      is_object = other.1;
      has_mark = it.has_mark;
      belongs = BelongsTo-same it.object (HaveSameSlots-sym kept) it.belongs;
    }
  ]

  pub KeepsObjects-freed : KeepsObjects old → KeepsObjects new
  KeepsObjects-freed keeps =
      let pool = ap (λ (s : State). s.pool) frees.is_new in
      let align = ap (λ (s : State). s.align) frees.is_new in
      record {
        fewer =
            let count = ap (λ (objects : List Object). length objects) objects_are in
            let slots = ap (λ (s : State). length s.slots) frees.is_new in
            omega (arith, keeps.fewer, slots, count, length-set old.objects (number - 1) freed);
        child = child-marked old new kept pool align keeps was-freed;
        differ = differ-marked old new kept pool align keeps was-freed;
        exact = record { exact = exact-marked old new kept pool align keeps was-freed };
        apart = apart-marked old new kept pool align keeps was-freed;
        revoked = record {
          revoked = λ n slot is.
              let law = keeps.revoked.revoked n slot (IsSlot-along (sym slots_are) is) in
              (λ marked. swept-still n (law.0 marked), λ it. law.1 (swept-before n it));
          pool_stays = λ n slot is.
              keeps.revoked.pool_stays n slot (record { is_pool = sym pool ∙ is.is_pool; is_slot = IsSlot-along (sym slots_are) is.is_slot });
        };
      }
