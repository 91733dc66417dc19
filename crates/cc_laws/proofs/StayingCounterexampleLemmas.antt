-- States of which the second does not have what the first had, or has a slot that grants more.
use Rattle.std.proofs.Common.{ℕ, true, false, ◌≡◌, Some, None, refl, sym, ap, ◌∙◌, IsTrue, subst, arith}
use Rattle.std.proofs.lemmas.Bool.Decides.{nat_tests}
use Rattle.cc_plan.specs.declared.planned_object.ObjectState.TheVariants.{Live, Swept}
use Rattle.cc_cap.specs.Capability.{Capability, GrantsNoMore, root_capability}
use Rattle.cc_machine.specs.declared.object.Object.{Object}
use Rattle.cc_machine.specs.State.{State, SlotState, IsSlot}
use Rattle.cc_machine.specs.Objects.{IsObject}
use Rattle.cc_machine.proofs.SlotLemmas.{IsSlot-same, IsSlot-within}
use Rattle.cc_machine.proofs.ObjectLemmas.{IsObject-same}
use Rattle.cc_laws.specs.Staying.{stage, KeepsSlots}
use Rattle.cc_laws.specs.ByteConfinement.{GrantsWithinGiven, IsConfinedInBytes}
use Rattle.cc_laws.specs.Counterexamples.{bounded_root, child_slot, first_slot, powerless_root, revoked_slot, counterexample_object, is_first}
use Rattle.cc_laws.specs.Counterexamples.{root_alone, two_slots, unsealed_alone, own_parent, revoked_pool, pool_alone, tagged_after_sweep}
use Rattle.cc_laws.specs.Counterexamples.{with_another_limit, live_after_sweep, grown_object, child_with_more_permissions, sixteen_bytes}
use Rattle.cc_laws.specs.Counterexamples.{child_with_more_bytes, revoked_alone, child_of_revoked}

pub limit-breaks : ¬ KeepsSlots root_alone with_another_limit
limit-breaks keeps = let e = keeps.limit in absurd (omega (arith, e))

pub lost-breaks : ¬ KeepsSlots two_slots unsealed_alone
lost-breaks keeps =
    let kept = keeps.slots 1 _ (record { found = refl }) in
    let within = IsSlot-within kept.is_slot in
    absurd (omega (arith, within))

pub capability-breaks : ¬ KeepsSlots unsealed_alone root_alone
capability-breaks keeps =
    let kept = keeps.slots 0 _ (record { found = refl }) in
    let at : IsSlot root_alone 0 (first_slot root_capability) = record { found = refl } in
    let same = IsSlot-same at kept.is_slot in
    let more : 0xffff ≡ 0 = ap (λ (s : SlotState). s.capability.permissions) same ∙ ap (λ (c : Capability). c.permissions) kept.capability in
    absurd (omega (arith, more))

pub parent-breaks : ¬ KeepsSlots root_alone own_parent
parent-breaks keeps =
    let kept = keeps.slots 0 _ (record { found = refl }) in
    let at : IsSlot own_parent 0 (child_slot root_capability) = record { found = refl } in
    let same = IsSlot-same at kept.is_slot in
    never 0 (ap (λ (s : SlotState). s.parent) same ∙ kept.parent)
  where
    never : (parent : ℕ) → Some parent ≡ None → ⊥
    never parent e = cc

pub tagged-breaks : ¬ KeepsSlots revoked_pool pool_alone
tagged-breaks keeps =
    let kept = keeps.slots 0 _ (record { found = refl }) in
    let at : IsSlot pool_alone 0 (first_slot root_capability) = record { found = refl } in
    let same = IsSlot-same at kept.is_slot in
    let e : false ≡ true = ap (λ (s : SlotState). s.revoked) same ∙ kept.revoked refl in
    cc

pub size-breaks : ¬ KeepsSlots tagged_after_sweep grown_object
size-breaks keeps =
    let kept = keeps.objects 1 _ (record { found = refl }) in
    let at : IsObject grown_object 1 (record (counterexample_object 1 Swept) { size = 2 }) = record { found = refl } in
    let same = IsObject-same at kept.is_object in
    let e : 2 ≡ 1 = ap (λ (o : Object). o.size) same ∙ kept.size in
    absurd (omega (arith, e))

pub state-breaks : ¬ KeepsSlots tagged_after_sweep live_after_sweep
state-breaks keeps =
    let kept = keeps.objects 1 _ (record { found = refl }) in
    let at : IsObject live_after_sweep 1 (counterexample_object 1 Live) = record { found = refl } in
    let same = IsObject-same at kept.is_object in
    let early : 0 ≡ stage kept.after.state = ap (λ (o : Object). stage o.state) same in
    let later = kept.goes_on in
    absurd (omega (arith, early, later))

pub pool-breaks : ¬ KeepsSlots pool_alone root_alone
pool-breaks keeps = let e = (keeps.pool 0 refl).0 in cc

-- ---- confinement in bytes

-- the slot that grants it is the first, the only one that is given
first_of : (old : State) (first made : SlotState) → IsSlot old 0 first → (within : GrantsWithinGiven is_first old made)
    → within.above ≡ first
first_of old first made is within =
    let zero : within.number ≡ 0 = is-zero within.number within.is_given in
    IsSlot-same (subst (λ (n : ℕ). IsSlot old n within.above) zero within.was_there) is
  where
    is-zero : (n : ℕ) → IsTrue (is_first n) → n ≡ 0
    is-zero n given = grind (arith, nat_tests)

pub permissions-break : ¬ IsConfinedInBytes is_first unsealed_alone child_with_more_permissions
permissions-break confined =
    let within = confined 1 (child_slot root_capability) (omega arith) (record { found = refl }) in
    let same = first_of unsealed_alone (first_slot powerless_root) (child_slot root_capability) (record { found = refl }) within in
    let less : GrantsNoMore root_capability powerless_root =
    subst (λ (s : SlotState). GrantsNoMore root_capability s.capability) same within.grants_no_more in
    let all : 0 ≡ 0xffff = less.permissions in
    absurd (omega (arith, all))

pub bytes-break : ¬ IsConfinedInBytes is_first sixteen_bytes child_with_more_bytes
bytes-break confined =
    let made = child_slot (bounded_root 0 17) in
    let within = confined 1 made (omega arith) (record { found = refl }) in
    let same = first_of sixteen_bytes (first_slot (bounded_root 0 16)) made (record { found = refl }) within in
    let less : GrantsNoMore (bounded_root 0 17) (bounded_root 0 16) =
    subst (λ (s : SlotState). GrantsNoMore (bounded_root 0 17) s.capability) same within.grants_no_more in
    let top = less.bytes.to_top in
    absurd (omega (arith, top))

pub tag-breaks : ¬ IsConfinedInBytes is_first revoked_alone child_of_revoked
tag-breaks confined =
    let made = child_slot root_capability in
    let within = confined 1 made (omega arith) (record { found = refl }) in
    let same = first_of revoked_alone (revoked_slot (first_slot root_capability)) made (record { found = refl }) within in
    let e : true ≡ false = sym (ap (λ (s : SlotState). s.revoked) same) ∙ within.was_tagged refl in
    cc

-- ---- those of each law

pub ruleset staying_breaks = (limit-breaks, lost-breaks, capability-breaks, parent-breaks, tagged-breaks, size-breaks, state-breaks, pool-breaks)

pub ruleset bytes_break = (permissions-break, bytes-break, tag-breaks)
