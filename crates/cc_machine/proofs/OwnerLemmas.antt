-- The owner of each slot is the object that it belongs to, and stays so through each operation.
use Rattle.std.proofs.Common.{ℕ, zero, suc, ◌≡◌, ◌⊎◌, ◌↔◌, ◌+◌, ◌-◌, ◌<◌, ◌≤◌, ◌∙◌, List, [], ◌∷◌, ◌++◌, Option, Some, length, slice_index, refl, sym, subst, inl, inr, arith}
use Rattle.std.proofs.lemmas.Bool.{cases_lt}
use Rattle.std.proofs.lemmas.List.{get_or_append_left, get_or_push, length_push}
use Rattle.std.proofs.lemmas.Option.{slice_get_within}
use Rattle.cc_cap.specs.Capability.{Capability}
use Rattle.cc_bounds.specs.declared.align.Align.{Align}
use Rattle.cc_plan.specs.declared.planned_object.ObjectState.TheVariants.{Live}
use Rattle.cc_machine.specs.declared.object.Object.{Object}
use Rattle.cc_machine.specs.State.{State, initial_state, with_slot, IsParent, IsAncestor}
use Rattle.cc_machine.specs.State.IsAncestor.{parent_of, above_parent}
use Rattle.cc_machine.specs.Objects.{IsObject, BelongsTo, with_object}
use Rattle.cc_machine.specs.Owners.{TellsOwners}
use Rattle.cc_machine.proofs.SlotLemmas.{length-with_slot, IsParent-new, IsAncestor-stays, ancestor-before}
use Rattle.cc_machine.proofs.SameSlotsLemmas.{HaveSameSlots, HaveSameSlots-sym, HaveSameSlots-list, BelongsTo-same}
use Rattle.cc_machine.proofs.ObjectLemmas.{IsObject-some, object_at-push, BelongsTo-was, BelongsTo-stays, BelongsTo-new, IsAncestor-was}
use Rattle.cc_machine.proofs.ObjectTreeLemmas.{KeepsObjects, no-objects, object-within}
use Rattle.cc_machine.proofs.ObjectMarkedLemmas.{Was}

-- ---- an opened machine

pub TellsOwners-initial : (limit : ℕ) → TellsOwners (0 ∷ []) (initial_state limit)
TellsOwners-initial limit = record {
  as_many = refl;
  fits = fits;
  each = λ slot number object within is. absurd (no-objects (initial_state limit) refl number object is);
}
  where
    fits : (slot : ℕ) → slice_index (0 ∷ []) slot ≤ 0
    fits zero = omega arith
    fits (suc slot) = omega arith

-- ---- the same slots, and objects of the same slots

-- what belongs to an object belongs to each one of the same slot
BelongsTo-along : (state : State) (one other : Object) (slot : ℕ) → one.slot ≡ other.slot → BelongsTo state one slot → BelongsTo state other slot
BelongsTo-along state one other slot same belongs =
    let P : ℕ → Type 0 = λ n. (slot ≡ n) ⊎ IsAncestor state n slot in
    subst P same belongs

pub TellsOwners-stays : (owners : List ℕ) (old new : State) → TellsOwners owners old → HaveSameSlots old new
    → length new.objects ≡ length old.objects
    → ((number : ℕ) (object : Object) → IsObject new number object → Was old number object) → TellsOwners owners new
TellsOwners-stays owners old new tells same as_many was = record {
  as_many = tells.as_many ∙ sym same.as_many;
  fits = λ slot. let known = tells.fits slot in omega (arith, known, as_many);
  each = each;
}
  where
    each : (slot number : ℕ) (object : Object) → slot < length new.slots → IsObject new number object
        → (slice_index owners slot ≡ number) ↔ BelongsTo new object slot
    each slot number object within is =
        let it = was number object is in
        let law = tells.each slot number it.before (omega (arith, within, same.as_many)) it.is_object in (
          λ owns. BelongsTo-same object same (BelongsTo-along old it.before object slot it.same_slot (law.0 owns)),
          λ belongs. law.1 (BelongsTo-along old object it.before slot (sym it.same_slot) (BelongsTo-same object (HaveSameSlots-sym same) belongs)),
        )

-- another pool
pub TellsOwners-pool : (owners : List ℕ) (old : State) (pool : Option ℕ) (align : Align) → TellsOwners owners old
    → TellsOwners owners (record old { pool = pool; align = align })
TellsOwners-pool owners old pool align tells =
    let new : State = record old { pool = pool; align = align } in
    TellsOwners-stays owners old new tells (HaveSameSlots-list old new refl) refl (λ number object is. record {
      before = object;
      is_object = record { found = is.found };
      same_slot = refl;
      same_size = refl;
      held = λ held. held;
    })

-- ---- one more slot

-- an owner more that fits
fits-push : (owners : List ℕ) (more most : ℕ) → ((slot : ℕ) → slice_index owners slot ≤ most) → more ≤ most
    → (slot : ℕ) → slice_index (owners ++ more ∷ []) slot ≤ most
fits-push [] more most fit fits zero = fits
fits-push [] more most fit fits (suc slot) = fit slot
fits-push (first ∷ owners) more most fit fits zero = fit 0
fits-push (first ∷ owners) more most fit fits (suc slot) = fits-push owners more most (λ k. fit (suc k)) fits slot

module _ (owners : List ℕ) (old : State) (capability : Capability) (parent : ℕ) (tells : TellsOwners owners old)
    (inside : parent < length old.slots) (order : (above number : ℕ) → IsParent old above number → above < number)
    (keeps : KeepsObjects old) where
  abbrev new : State
  new = with_slot old capability parent

  -- the owner of a slot that was there
  owner-was : (more slot : ℕ) → slot < length old.slots → slice_index (owners ++ more ∷ []) slot ≡ slice_index owners slot
  owner-was more slot within = get_or_append_left owners (more ∷ []) 0 slot (omega (arith, within, tells.as_many))

  owner-new : (more : ℕ) → slice_index (owners ++ more ∷ []) (length old.slots) ≡ more
  owner-new more = get_or_push owners more 0 (length old.slots) tells.as_many

  -- the owner of a slot that existed before
  each-was : (more slot number : ℕ) (object : Object) → slot < length old.slots → IsObject old number object
      → (slice_index (owners ++ more ∷ []) slot ≡ number) ↔ BelongsTo new object slot
  each-was more slot number object within is =
      let law = tells.each slot number object within is in (
        λ owns. BelongsTo-stays old capability parent inside order object (law.0 (sym (owner-was more slot within) ∙ owns)),
        λ belongs. owner-was more slot within ∙ law.1 (BelongsTo-was old capability parent inside order object within belongs),
      )

  -- the new slot, of the owner of its parent
  each-new : (number : ℕ) (object : Object) → IsObject old number object
      → (slice_index (owners ++ slice_index owners parent ∷ []) (length old.slots) ≡ number) ↔ BelongsTo new object (length old.slots)
  each-new number object is =
      let law = tells.each parent number object inside is in
      let early = object-within old keeps number object is in (
        λ owns. below (law.0 (sym (owner-new (slice_index owners parent)) ∙ owns)),
        λ belongs.
            owner-new (slice_index owners parent)
            ∙ law.1 (BelongsTo-new old capability parent inside order object early belongs),
      )
    where
      below : BelongsTo old object parent → BelongsTo new object (length old.slots)
      below (inl at) = inr (parent_of (subst (λ (n : ℕ). IsParent new n (length old.slots)) at (IsParent-new old capability parent)))
      below (inr up) = inr (above_parent (IsParent-new old capability parent) (IsAncestor-stays old capability parent up))

  -- a slot that belongs to what its parent belongs to
  pub TellsOwners-next : TellsOwners (owners ++ slice_index owners parent ∷ []) new
  TellsOwners-next = record {
    as_many = omega (arith, tells.as_many, length_push owners (slice_index owners parent), length-with_slot old capability parent);
    fits = fits-push owners (slice_index owners parent) (length old.objects) tells.fits (tells.fits parent);
    each = λ slot number object within is.
        let was : IsObject old number object = record { found = is.found } in
        elim (cases_lt slot (length old.slots)) [
          | inl early ↦ each-was (slice_index owners parent) slot number object early was
          | inr from ↦
              let same : slot ≡ length old.slots = omega (arith, within, from, length-with_slot old capability parent) in
              subst (λ (n : ℕ). (slice_index (owners ++ slice_index owners parent ∷ []) n ≡ number) ↔ BelongsTo new object n) (sym same)
              (each-new number object was)
        ];
  }

  -- the pool's slot belongs to no object
  none-above-pool : old.pool ≡ Some parent → (number : ℕ) (object : Object) → IsObject old number object → ¬ BelongsTo old object parent
  none-above-pool is_pool number object is belongs =
      let child = keeps.child number object is in
      let at : child.pool ≡ parent = (let e = child.is_pool.is_pool in cc) in
      let less = order child.pool object.slot child.is_parent in
      elim belongs [
        | inl own ↦ absurd (omega (arith, at, less, own))
        | inr up ↦ let before = ancestor-before old order up in absurd (omega (arith, at, less, before))
      ]

  -- the new slot, of a new object
  module _ (is_pool : old.pool ≡ Some parent) (size next : ℕ) (is_next : next ≡ length old.objects + 1) where
    abbrev with : State
    with = with_object old capability parent size

    abbrev made : Object
    made = record { size = size; slot = length old.slots; state = Live }

    alike : HaveSameSlots new with
    alike = HaveSameSlots-list new with refl

    along : {A : Type 0} (object : Object) (slot : ℕ) → A ↔ BelongsTo new object slot → A ↔ BelongsTo with object slot
    along object slot law = (
      λ a. BelongsTo-same object alike (law.0 a),
      λ belongs. law.1 (BelongsTo-same object (HaveSameSlots-sym alike) belongs),
    )

    each-old : (slot number : ℕ) (object : Object) → slot < length with.slots → IsObject old number object
        → (slice_index (owners ++ next ∷ []) slot ≡ number) ↔ BelongsTo new object slot
    each-old slot number object within is = elim (cases_lt slot (length old.slots)) [
      | inl early ↦ each-was next slot number object early is
      | inr from ↦
          let same : slot ≡ length old.slots = omega (arith, within, from, length-with_slot old capability parent) in
          let known = slice_get_within old.objects (number - 1) object (IsObject-some old number object is) in
          let early = object-within old keeps number object is in
          subst (λ (n : ℕ). (slice_index (owners ++ next ∷ []) n ≡ number) ↔ BelongsTo new object n) (sym same) (
            λ owns. absurd (omega (arith, owns, owner-new next, known, is_next)),
            λ belongs. absurd (none-above-pool is_pool number object is (BelongsTo-new old capability parent inside order object early belongs)),
          )
    ]

    each-made : (slot : ℕ) → slot < length with.slots → (slice_index (owners ++ next ∷ []) slot ≡ next) ↔ BelongsTo new made slot
    each-made slot within = elim (cases_lt slot (length old.slots)) [
      | inl early ↦ (
        λ owns. let fits = tells.fits slot in absurd (omega (arith, owns, owner-was next slot early, fits, is_next)),
        λ belongs. absurd (not-made early belongs),
      )
      | inr from ↦
          let same : slot ≡ length old.slots = omega (arith, within, from, length-with_slot old capability parent) in
          subst (λ (n : ℕ). (slice_index (owners ++ next ∷ []) n ≡ next) ↔ BelongsTo new made n) (sym same)
          (λ owns. inl refl, λ belongs. owner-new next)
    ]
      where
        not-made : slot < length old.slots → BelongsTo new made slot → ⊥
        not-made early (inl same) = absurd (omega (arith, early, same))
        not-made early (inr up) =
            let before = ancestor-before old order (IsAncestor-was old capability parent inside order early up) in
            absurd (omega (arith, early, before))

    pub TellsOwners-first : TellsOwners (owners ++ next ∷ []) with
    TellsOwners-first = record {
      as_many = omega (arith, tells.as_many, length_push owners next, length-with_slot old capability parent);
      fits =
          fits-push owners next (length with.objects)
          (λ slot. let known = tells.fits slot in omega (arith, known, length_push old.objects made))
          (omega (arith, is_next, length_push old.objects made));
      each = λ slot number object within is. along object slot (elim (object_at-push old.objects made number object is.found) [
        | inl there ↦ each-old slot number object within (record { found = there })
        | inr last ↦
            let at : number ≡ next = omega (arith, last.0, is_next) in
            subst (λ (n : ℕ). (slice_index (owners ++ next ∷ []) slot ≡ n) ↔ BelongsTo new object slot) (sym at)
            (subst (λ (o : Object). (slice_index (owners ++ next ∷ []) slot ≡ next) ↔ BelongsTo new o slot) (sym last.1)
            (each-made slot within))
      ]);
    }
