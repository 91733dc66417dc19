-- Slots that a run makes grant no more than the given ones did.
use Rattle.std.proofs.Common.{ℕ, Bool, true, false, ◌≡◌, List, refl, subst, inl, inr}
use Rattle.cc_cap.specs.Capability.{Capability, GrantsNoMore}
use Rattle.cc_values.specs.declared.op.Op.{Op}
use Rattle.cc_values.specs.declared.reply.Reply.{Reply}
use Rattle.cc_machine.specs.declared.object.Object.{Object}
use Rattle.cc_machine.specs.State.{State, SlotState, IsSlot, IsAncestor}
use Rattle.cc_machine.specs.State.IsAncestor.{parent_of, above_parent}
use Rattle.cc_machine.specs.Objects.{BelongsTo}
use Rattle.cc_machine.specs.Run.{IsReached}
use Rattle.cc_machine.specs.Confinement.{RunsWithin}
use Rattle.cc_machine.proofs.SlotLemmas.{slot_at, IsSlot-within}
use Rattle.cc_machine.proofs.TreeLemmas.{Keeps-reached, less-above}
use Rattle.cc_machine.proofs.RunLemmas.{IsReached-run}
use Rattle.cc_machine.proofs.ObjectLawLemmas.{KeepsObjectLaws-reached}
use Rattle.cc_machine.proofs.ObjectConfinementLemmas.{within-run}
use Rattle.cc_machine.proofs.ConfinementLemmas.{IsConfined-run}
use Rattle.cc_laws.specs.ByteConfinement.{IsConfinedInBytes}
use Rattle.cc_laws.proofs.StayingLemmas.{KeepsSlots-run}

ancestor-through : (state : State) {first second number : ℕ} → IsAncestor state first second → IsAncestor state second number
    → IsAncestor state first number
ancestor-through state up (parent_of is) = above_parent is up
ancestor-through state up (above_parent is further) = above_parent is (ancestor-through state up further)

belongs-below : (state : State) (object : Object) (above number : ℕ) → BelongsTo state object above → IsAncestor state above number
    → BelongsTo state object number
belongs-below state object above number (inl same) up = inr (subst (λ (n : ℕ). IsAncestor state n number) same up)
belongs-below state object above number (inr over) up = inr (ancestor-through state over up)

-- a slot below a revoked one is revoked
below-revoked : (state : State) → IsReached state → (ancestor number : ℕ) (above slot : SlotState) → IsSlot state ancestor above
    → IsSlot state number slot → IsAncestor state ancestor number → above.revoked ≡ true → slot.revoked ≡ true
below-revoked state reached ancestor number above slot at is up was =
    let laws = KeepsObjectLaws-reached state reached in
    let some = (laws.revoked.revoked ancestor above at).0 was in
    (laws.revoked.revoked number slot is).1 (record {
      number = some.number;
      object = some.object;
      is_object = some.is_object;
      has_mark = some.has_mark;
      belongs = belongs-below state some.object ancestor number some.belongs up;
    })

tagged-above : (above below : Bool) → (above ≡ true → below ≡ true) → below ≡ false → above ≡ false
tagged-above false below revoked is = refl
tagged-above true below revoked is = let e = revoked refl in cc

-- each slot made grants no more than its given ancestor did
pub within-given : (given : ℕ → Bool) (old new : State) (ops : List Op) (replies : List Reply) → IsReached old
    → RunsWithin given old old ops replies new → IsConfinedInBytes given old new
within-given given old new ops replies reached run number slot made is =
    let keeps = Keeps-reached old reached in
    let runs = within-run given old old new ops replies run in
    let reached' = IsReached-run old new ops replies reached runs in
    let up = (IsConfined-run given old new ops replies keeps run).derived number made (IsSlot-within is) in
    let there = slot_at old up.ancestor up.was_there in
    let kept = (KeepsSlots-run old new ops replies keeps runs).slots up.ancestor there.slot there.is_slot in
    let less = less-above new (Keeps-reached new reached') kept.after slot up.is_ancestor kept.is_slot is in
    record {
      number = up.ancestor;
      above = there.slot;
      is_given = up.is_given;
      was_there = there.is_slot;
      grants_no_more = subst (λ (c : Capability). GrantsNoMore slot.capability c) kept.capability less;
      was_tagged = tagged-above there.slot.revoked slot.revoked (λ was.
          below-revoked new reached' up.ancestor number kept.after slot kept.is_slot is up.is_ancestor (kept.revoked was));
    }
