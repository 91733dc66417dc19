-- What marking objects, and revoking slots, leaves of the laws of objects.
use Rattle.std.proofs.Common.{ℕ, ◌≡◌, ◌≢◌, ◌<◌, ◌∙◌, IsTrue, sym, subst, inl, inr, arith}
use Rattle.cc_bounds.specs.Span.{SharesByte}
use Rattle.cc_cap.specs.Capability.{Capability}
use Rattle.cc_bounds.specs.declared.align.Align.{Align}
use Rattle.cc_plan.specs.Plan.{HasExactBounds, is_held}
use Rattle.cc_machine.specs.declared.object.Object.{Object}
use Rattle.cc_machine.specs.State.{State, SlotState, IsSlot, IsParent}
use Rattle.cc_machine.specs.Objects.{IsObject, IsHeldObject, IsPool, BelongsTo}
use Rattle.cc_machine.specs.ObjectLaws.{IsChildOfPool}
use Rattle.cc_machine.proofs.SlotLemmas.{ancestor-before}
use Rattle.cc_machine.proofs.SameSlotsLemmas.{HaveSameSlots, IsParent-same}
use Rattle.cc_machine.proofs.ObjectTreeLemmas.{KeepsObjects}

-- an object with the same size and slot was there, and held its bytes if this one does
pub record Was (old : State) (number : ℕ) (object : Object) : Type 0 where
  pub before : Object
  pub is_object : IsObject old number before
  pub same_slot : before.slot ≡ object.slot
  pub same_size : before.size ≡ object.size
  pub held : IsTrue (is_held object.state) → IsTrue (is_held before.state)

-- the pool's slot belongs to no object
pub pool-of-none : (state : State) → ((above below : ℕ) → IsParent state above below → above < below) → KeepsObjects state
    → (number : ℕ) (object : Object) (n : ℕ) (slot : SlotState) → IsObject state number object → IsPool state n slot → ¬ BelongsTo state object n
pool-of-none state order keeps number object n slot is_object is belongs =
    let child = keeps.child number object is_object in
    let at : child.pool ≡ n = (let e = child.is_pool.is_pool in let f = is.is_pool in cc) in
    let less : child.pool < object.slot = order child.pool object.slot child.is_parent in
    elim belongs [
      | inl own ↦ absurd (omega (arith, at, less, own))
      | inr up ↦ let before = ancestor-before state order up in absurd (omega (arith, at, less, before))
    ]

module _ (old new : State) (kept : HaveSameSlots old new) (pool_stays : new.pool ≡ old.pool) (align_stays : new.align ≡ old.align) (keeps : KeepsObjects old)
    (was : (number : ℕ) (object : Object) → IsObject new number object → Was old number object) where
  pub child-marked : (n : ℕ) (object : Object) → IsObject new n object → IsChildOfPool new object
  child-marked n object is =
      let it = was n object is in
      let child = keeps.child n it.before it.is_object in
      let slot = kept.there child.pool child.slot child.is_pool.is_slot in
      record {
        pool = child.pool;
        slot = slot.other;
        is_pool = record { is_pool = pool_stays ∙ child.is_pool.is_pool; is_slot = slot.is_slot };
        is_parent = subst (λ (m : ℕ). IsParent new child.pool m) it.same_slot (IsParent-same kept child.is_parent);
      }

  pub differ-marked : (one other : ℕ) (first second : Object) → IsObject new one first → IsObject new other second
      → first.slot ≡ second.slot → one ≡ other
  differ-marked one other first second is also at =
      let it = was one first is in
      let too = was other second also in
      keeps.differ one other it.before too.before it.is_object too.is_object (it.same_slot ∙ at ∙ sym too.same_slot)

  pub exact-marked : (n : ℕ) (object : Object) (slot : SlotState) → IsObject new n object → IsSlot new object.slot slot
      → HasExactBounds new.align (record { size = object.size; span = slot.capability.span; state = object.state })
  exact-marked n object slot is at =
      let it = was n object is in
      let like = kept.back object.slot slot at in
      let old_slot : IsSlot old it.before.slot like.other = subst (λ (m : ℕ). IsSlot old m like.other) (sym it.same_slot) like.is_slot in
      let law = keeps.exact.exact n it.before like.other it.is_object old_slot in
      let one : HasExactBounds old.align (record { size = it.before.size; span = like.other.capability.span; state = object.state }) = record {
        some = law.some;
        unit = law.unit;
        is_unit = law.is_unit;
        aligned = law.aligned;
        ends = law.ends;
        is_span = law.is_span;
        sound = law.sound;
        padded = law.padded;
        at_least = law.at_least;
        at_most = law.at_most;
      } in
      subst (λ (a : Align). HasExactBounds a (record { size = object.size; span = slot.capability.span; state = object.state })) (sym align_stays)
      (subst (λ (c : Capability). HasExactBounds old.align (record { size = object.size; span = c.span; state = object.state })) like.capability
      (subst (λ (m : ℕ). HasExactBounds old.align (record { size = m; span = like.other.capability.span; state = object.state })) it.same_size one))

  pub apart-marked : (one other : ℕ) (first second : Object) (slot beside : SlotState)
      → IsHeldObject new one first → IsHeldObject new other second → one ≢ other
      → IsSlot new first.slot slot → IsSlot new second.slot beside → ¬ SharesByte slot.capability.span beside.capability.span
  apart-marked one other first second slot beside is also differ at and_at shares =
      let it = was one first is.is_object in
      let too = was other second also.is_object in
      let like = kept.back first.slot slot at in
      let and_like = kept.back second.slot beside and_at in
      keeps.apart one other it.before too.before like.other and_like.other
      (record { is_object = it.is_object; held = it.held is.held }) (record { is_object = too.is_object; held = too.held also.held }) differ
      (subst (λ (m : ℕ). IsSlot old m like.other) (sym it.same_slot) like.is_slot)
      (subst (λ (m : ℕ). IsSlot old m and_like.other) (sym too.same_slot) and_like.is_slot)
      (subst (λ (c : Capability). SharesByte c.span and_like.other.capability.span) (sym like.capability)
      (subst (λ (c : Capability). SharesByte slot.capability.span c.span) (sym and_like.capability) shares))
