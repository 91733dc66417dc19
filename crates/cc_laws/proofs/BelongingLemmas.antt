-- Whether a slot belongs to a freed object is decided, and so there is what a sweep makes of the slots.
use Rattle.std.specs.List.{slice_get}
use Rattle.std.specs.Prelude.{cond}
use Rattle.std.proofs.Common.{ℕ, zero, suc, Bool, true, false, ◌≡◌, ◌⊎◌, ◌+◌, ◌-◌, ◌<◌, ◌∙◌, List, [], ◌∷◌, Option, Some, None, length, ok_or, refl, sym, ap, subst, inl, inr, arith}
use Rattle.std.proofs.Math.Decide.{map_dec, ℕ_discrete}
use Rattle.std.proofs.lemmas.List.Sums.{sum_by-cons}
use Rattle.cc_word.specs.declared.refusal.Refusal.TheVariants.{NoObject}
use Rattle.cc_plan.specs.declared.planned_object.ObjectState.{ObjectState}
use Rattle.cc_plan.specs.declared.planned_object.ObjectState.TheVariants.{Live, Freed, Swept}
use Rattle.cc_machine.specs.declared.object.Object.{Object}
use Rattle.cc_machine.specs.State.{State, SlotState, IsSlot, IsParent, IsAncestor}
use Rattle.cc_machine.specs.State.IsAncestor.{parent_of, above_parent}
use Rattle.cc_machine.specs.Objects.{BelongsTo, BelongsToSome}
use Rattle.cc_machine.specs.Step.{RevokesIf, revoked_count}
use Rattle.cc_machine.proofs.SlotLemmas.{IsSlot-same, IsParent-one}
use Rattle.cc_machine.proofs.ObjectLemmas.{IsObject-some}

-- ---- ancestors

-- a slot with an ancestor has a parent, which is that ancestor or has it as an ancestor
record IsBelow (state : State) (above number : ℕ) : Type 0 where
  parent : ℕ
  is_parent : IsParent state parent number
  from_parent : (parent ≡ above) ⊎ IsAncestor state above parent

ancestor-below : (state : State) (above : ℕ) {number : ℕ} → IsAncestor state above number → IsBelow state above number
ancestor-below state above (parent_of is) = record { parent = above; is_parent = is; from_parent = inl refl }
ancestor-below state above (above_parent {parent = parent} is further) =
    record { parent = parent; is_parent = is; from_parent = inr further }

module _ (state : State) (order : (parent number : ℕ) → IsParent state parent number → parent < number) (above : ℕ) where
  -- if the parent is known
  by_parent : (number parent : ℕ) → IsParent state parent number → Dec (parent ≡ above) → Dec (IsAncestor state above parent)
      → Dec (IsAncestor state above number)
  by_parent number parent is (yes same) further = yes (parent_of (subst (λ (n : ℕ). IsParent state n number) same is))
  by_parent number parent is (no differ) (yes further) = yes (above_parent is further)
  by_parent number parent is (no differ) (no neither) = no not_below
    where
      not_below : ¬ IsAncestor state above number
      not_below ancestor =
          let below = ancestor-below state above ancestor in
          let same : below.parent ≡ parent = IsParent-one below.is_parent is in
          elim below.from_parent [
            | inl direct ↦ differ (sym same ∙ direct)
            | inr further ↦ neither (subst (λ (n : ℕ). IsAncestor state above n) same further)
          ]

  -- a slot without a parent has no ancestor
  no_parent : (number : ℕ) → ((parent : ℕ) → ¬ IsParent state parent number) → Dec (IsAncestor state above number)
  no_parent number none =
      no (λ ancestor. let below = ancestor-below state above ancestor in none below.parent below.is_parent)

  -- what is decided of each slot before it is decided of the slot
  by_earlier : (number : ℕ) → ((earlier : ℕ) → earlier < number → Dec (IsAncestor state above earlier)) → Dec (IsAncestor state above number)
  by_earlier number decide = by_slot (slice_get state.slots number) refl
    where
      by_link : (slot : SlotState) → IsSlot state number slot → (link : Option ℕ) → slot.parent ≡ link → Dec (IsAncestor state above number)
      by_link slot is None none = no_parent number (λ parent parent_is.
          let same = IsSlot-same is parent_is.is_slot in
          let e : slot.parent ≡ Some parent = ap (λ (s : SlotState). s.parent) same ∙ parent_is.is_parent in
          cc)
      by_link slot is (Some parent) link =
          let is_parent : IsParent state parent number = record { slot = slot; is_slot = is; is_parent = link } in
          by_parent number parent is_parent (ℕ_discrete parent above) (decide parent (order parent number is_parent))

      by_slot : (found : Option SlotState) → slice_get state.slots number ≡ found → Dec (IsAncestor state above number)
      by_slot None none = no_parent number (λ parent is. let e = is.is_slot.found in cc)
      by_slot (Some slot) is = by_link slot (record { found = is }) slot.parent refl

  by_limit : (limit number : ℕ) → number < limit → Dec (IsAncestor state above number)
  by_limit zero number within = absurd (omega (arith, within))
  by_limit (suc limit) number within =
      by_earlier number (λ earlier less. by_limit limit earlier (omega (arith, less, within)))

  pub dec-IsAncestor : (number : ℕ) → Dec (IsAncestor state above number)
  dec-IsAncestor number = by_limit (suc number) number (omega arith)

-- ---- belonging

module _ (state : State) (order : (parent number : ℕ) → IsParent state parent number → parent < number) where
  dec-BelongsTo : (object : Object) (slot : ℕ) → Dec (BelongsTo state object slot)
  dec-BelongsTo object slot = by_cases (ℕ_discrete slot object.slot) (dec-IsAncestor state order object.slot slot)
    where
      by_cases : Dec (slot ≡ object.slot) → Dec (IsAncestor state object.slot slot) → Dec (BelongsTo state object slot)
      by_cases (yes own) below = yes (inl own)
      by_cases (no not) (yes below) = yes (inr below)
      by_cases (no not) (no neither) = no (λ belongs. elim belongs [ inl own ↦ not own | inr below ↦ neither below ])

  -- a freed object at this place of a list, to which the slot belongs
  record IsOfFreed (slot : ℕ) (object : Object) : Type 0 where
    freed : object.state ≡ Freed
    belongs : BelongsTo state object slot

  dec-freed : (mark : ObjectState) → Dec (mark ≡ Freed)
  dec-freed Live = no (λ e. let f = e in cc)
  dec-freed Freed = yes refl
  dec-freed Swept = no (λ e. let f = e in cc)

  dec-IsOfFreed : (slot : ℕ) (object : Object) → Dec (IsOfFreed slot object)
  dec-IsOfFreed slot object = by_cases (dec-freed object.state) (dec-BelongsTo object slot)
    where
      by_cases : Dec (object.state ≡ Freed) → Dec (BelongsTo state object slot) → Dec (IsOfFreed slot object)
      by_cases (yes freed) (yes belongs) = yes (record { freed = freed; belongs = belongs })
      by_cases (yes freed) (no not) = no (λ h. not h.belongs)
      by_cases (no not) belongs = no (λ h. not h.freed)

  record IsOfOne (slot : ℕ) (objects : List Object) : Type 0 where
    place : ℕ
    object : Object
    found : slice_get objects place ≡ Some object
    is : IsOfFreed slot object

  dec-IsOfOne : (slot : ℕ) (objects : List Object) → Dec (IsOfOne slot objects)
  dec-IsOfOne slot [] = no (λ h. let e = h.found in cc)
  dec-IsOfOne slot (first ∷ objects) = by_first (dec-IsOfFreed slot first) (dec-IsOfOne slot objects)
    where
      by_place : (place : ℕ) (object : Object) → slice_get (first ∷ objects) place ≡ Some object → IsOfFreed slot object
          → ¬ IsOfFreed slot first → ¬ IsOfOne slot objects → ⊥
      by_place zero object found is not none =
          let same : first ≡ object = (let e : Some first ≡ Some object = found in cc) in
          not (subst (λ (o : Object). IsOfFreed slot o) (sym same) is)
      by_place (suc place) object found is not none = none (record { place = place; object = object; found = found; is = is })

      by_first : Dec (IsOfFreed slot first) → Dec (IsOfOne slot objects) → Dec (IsOfOne slot (first ∷ objects))
      by_first (yes is) rest = yes (record { place = 0; object = first; found = refl; is = is })
      by_first (no not) (yes some) =
          yes (record { place = suc some.place; object = some.object; found = some.found; is = some.is })
      by_first (no not) (no none) = no (λ h. by_place h.place h.object h.found h.is not none)

  -- whether a slot belongs to a freed object
  pub dec-BelongsToFreed : (slot : ℕ) → Dec (BelongsToSome state Freed slot)
  dec-BelongsToFreed slot =
      map_dec
      (λ one. record {
        number = suc one.place;
        object = one.object;
        is_object = record { found = ap (λ (o : Option Object). ok_or o NoObject) one.found };
        has_mark = one.is.freed;
        belongs = one.is.belongs;
      })
      (λ some. record {
        place = some.number - 1;
        object = some.object;
        found = IsObject-some state some.number some.object some.is_object;
        is = record { freed = some.has_mark; belongs = some.belongs };
      })
      (dec-IsOfOne slot state.objects)

-- ---- what a sweep makes of slots

-- a slot, revoked if it belongs
record IsMarked (belongs : Type 0) (slot : SlotState) : Type 0 where
  after : SlotState
  is : RevokesIf belongs slot after
  more : ℕ
  counted : cond after.revoked 1 0 ≡ cond slot.revoked 1 0 + more

mark : (belongs : Type 0) (slot : SlotState) → Dec belongs → IsMarked belongs slot
mark belongs slot (no not) = record { after = slot; is = inr (not, refl); more = 0; counted = omega arith }
mark belongs slot (yes does) = record {
  after = record slot { revoked = true };
  is = inl (does, refl);
  more = cond slot.revoked 0 1;
  counted = by_mark slot.revoked;
}
  where
    by_mark : (revoked : Bool) → 1 ≡ cond revoked 1 0 + cond revoked 0 1
    by_mark true = refl
    by_mark false = refl

-- slots, numbered from `from` on, each revoked if it belongs
pub record AreMarked (Belongs : ℕ → Type 0) (from : ℕ) (slots : List SlotState) : Type 0 where
  pub after : List SlotState
  pub as_many : length after ≡ length slots
  pub each :
      (place : ℕ) (old new : SlotState) → slice_get slots place ≡ Some old → slice_get after place ≡ Some new
      → RevokesIf (Belongs (from + place)) old new
  pub more : ℕ
  pub counted : revoked_count after ≡ revoked_count slots + more

pub mark_all : (Belongs : ℕ → Type 0) → ((n : ℕ) → Dec (Belongs n)) → (from : ℕ) (slots : List SlotState) → AreMarked Belongs from slots
mark_all Belongs decide from [] =
    record { after = []; as_many = refl; each = λ place old new is is'. (let e = is in cc); more = 0; counted = refl }
mark_all Belongs decide from (slot ∷ slots) = with_first (mark (Belongs from) slot (decide from)) (mark_all Belongs decide (suc from) slots)
  where
    with_first : IsMarked (Belongs from) slot → AreMarked Belongs (suc from) slots → AreMarked Belongs from (slot ∷ slots)
    with_first first rest = record {
      after = first.after ∷ rest.after;
      as_many = ap suc rest.as_many;
      each = by_place;
      more = first.more + rest.more;
      counted =
          let F : SlotState → ℕ = λ s. cond s.revoked 1 0 in
          let now = sum_by-cons F first.after rest.after in
          let was = sum_by-cons F slot slots in
          omega (arith, now, was, first.counted, rest.counted);
    }
      where
        by_place : (place : ℕ) (old new : SlotState) → slice_get (slot ∷ slots) place ≡ Some old
            → slice_get (first.after ∷ rest.after) place ≡ Some new → RevokesIf (Belongs (from + place)) old new
        by_place zero old new is is' =
            let before : slot ≡ old = (let e : Some slot ≡ Some old = is in cc) in
            let after : first.after ≡ new = (let e : Some first.after ≡ Some new = is' in cc) in
            let here : from ≡ from + 0 = omega arith in
            subst (λ (n : ℕ). RevokesIf (Belongs n) old new) here
            (subst (λ (s : SlotState). RevokesIf (Belongs from) s new) before
            (subst (λ (s : SlotState). RevokesIf (Belongs from) slot s) after first.is))
        by_place (suc place) old new is is' =
            let here : suc from + place ≡ from + suc place = omega arith in
            subst (λ (n : ℕ). RevokesIf (Belongs n) old new) here (rest.each place old new is is')
