-- The states that break the laws do, and one step has no outcome.
use Rattle.std.proofs.Common.{ℕ, zero, suc, true, false, ◌≡◌, ◌≢◌, ◌*◌, ◌/◌, ◌%◌, ◌^◌, ◌≤◌, IsTrue, [], ◌∷◌, Some, None, Result, Ok, Err, refl, sym, ap, subst, ◌∙◌, inl, inr, arith}
use Rattle.std.proofs.Math.Nat.{div-eq_of_lt}
use Rattle.std.specs.Int.RustNames.{bit_and}
use Rattle.cc_bounds.specs.declared.span.Span.{Span}
use Rattle.cc_bounds.specs.Span.{IsWithin, span_from, from_zero, length_of}
use Rattle.cc_bounds.specs.Granule.{IsSound, exponent_of}
use Rattle.cc_bounds.specs.Window.{IsRepresentable, Represents}
use Rattle.cc_bounds.proofs.ComputingLemmas.{exponent_of-long, granule_of-short}
use Rattle.cc_bounds.proofs.GranuleLemmas.{least-fits}
use Rattle.cc_bounds.proofs.SoundDecodingLemmas.{represents-computed}
use Rattle.cc_word.specs.declared.refusal.Refusal.{Refusal}
use Rattle.cc_word.specs.ObjType.{unsealed_type}
use Rattle.cc_word.specs.Permissions.{unseal_permission}
use Rattle.cc_cap.specs.Capability.{Capability, root_capability, at_address, sealed_with}
use Rattle.cc_cap.specs.Derivation.{SetsAddress}
use Rattle.cc_cap.proofs.BoundsLemmas.{root-IsCapability}
use Rattle.cc_placer.specs.Align.{unit_of}
use Rattle.cc_placer.proofs.UnitLemmas.{IsUnit-one}
use Rattle.cc_bounds.specs.declared.align.Align.TheVariants.{Sixteen}
use Rattle.cc_plan.specs.declared.planned_object.ObjectState.TheVariants.{Live, Swept}
use Rattle.cc_machine.specs.declared.object.Object.{Object}
use Rattle.cc_machine.specs.State.{State, SlotState, tagged_slot, initial_state, IsSlot, IsParent, IsAncestor}
use Rattle.cc_values.specs.declared.op.Op.TheVariants.{Addr}
use Rattle.cc_values.specs.declared.reply.Reply.{Reply}
use Rattle.cc_machine.specs.Step.{Adds, Step}
use Rattle.cc_laws.proofs.RootLemmas.{whole-least}
use Rattle.cc_machine.specs.State.IsAncestor.{parent_of, above_parent}
use Rattle.cc_machine.specs.Objects.{IsObject, IsPool, BelongsTo, BelongsToSome, held_bytes_of}
use Rattle.cc_machine.specs.Laws.{HoldsCapabilities, IsMonotonicTree, HasAuthorityBefore, HasSealingAuthority}
use Rattle.cc_machine.specs.ObjectLaws.{HangsFromPool, HasExactObjects, HasDisjointObjects, IsRevokedExactly}
use Rattle.cc_machine.specs.Confinement.{HasGivenAncestor, NoneMay, IsConfined}
use Rattle.cc_machine.specs.ObjectConfinement.{ReusesAfterRevocation, IsConfinedToObject}
use Rattle.cc_machine.specs.Reach.{path_to, ReachesAll}
use Rattle.cc_laws.specs.Counterexamples.{unsound_bounds, address_past_the_end, reserved_type, own_parent}
use Rattle.cc_laws.specs.Counterexamples.{child_with_more_bytes, revoked_child_with_more_permissions, sealed_by_none}
use Rattle.cc_laws.specs.Counterexamples.{unsealed_by_none, object_without_pool, slot_of_two_objects}
use Rattle.cc_laws.specs.Counterexamples.{object_with_another_byte, object_without_bytes, object_off_alignment}
use Rattle.cc_laws.specs.Counterexamples.{live_in_freed, revoked_without_object, tagged_after_sweep}
use Rattle.cc_laws.specs.Counterexamples.{revoked_while_live, revoked_pool, is_first, two_slots, child_of_another}
use Rattle.cc_laws.specs.Counterexamples.{sealed_alone, child_unsealed, unsealed_alone, child_sealed, root_alone}
use Rattle.cc_laws.specs.Counterexamples.{reused_before_revocation, objects_past_the_pool, two_objects}
use Rattle.cc_laws.specs.Counterexamples.{child_of_the_pool, child_in_another_object, child_tagged_after_sweep}
use Rattle.cc_laws.specs.Counterexamples.{five_refusals, of_slots, first_slot, child_slot, bounded_root, powerless_root, counterexample_object}
use Rattle.cc_cap.proofs.DerivationLemmas.{GrantsNoMore-itself}

-- ---- slots

-- a base of 1 is not a multiple of a granule of at least 8 bytes
unsound : ¬ IsSound (span_from 1 4096)
unsound sound =
    let granule : ℕ = sound.granule in
    let eight = (sound.is_granule.large (omega arith)).from_eight in
    let whole : 1 / granule ≡ 0 = div-eq_of_lt (omega (arith, eight)) in
    let base : 1 ≡ 1 / granule * granule = ap (λ (s : Span). s.base) sound.is_rounded in
    let none : 1 ≡ 0 * granule = rw whole at base in
    absurd (omega (arith, none))

pub unsound_bounds-breaks : ¬ HoldsCapabilities unsound_bounds
unsound_bounds-breaks holds = unsound (holds 0 _ (record { found = refl })).sound

pub address_past_the_end-breaks : ¬ HoldsCapabilities address_past_the_end
address_past_the_end-breaks holds =
    let fits = (holds 0 _ (record { found = refl })).address_fits in absurd (omega (arith, fits))

pub reserved_type-breaks : ¬ HoldsCapabilities reserved_type
reserved_type-breaks holds = elim (holds 0 _ (record { found = refl })).is_type [
  | inl sealed ↦ absurd (omega (arith, sealed))
  | inr unsealed ↦ absurd (omega (arith, unsealed))
]

pub own_parent-breaks : ¬ IsMonotonicTree own_parent
own_parent-breaks tree =
    let less = tree.parent_first 0 0 (record { slot = _; is_slot = record { found = refl }; is_parent = refl }) in
    absurd (omega (arith, less))

pub child_with_more_bytes-breaks : ¬ IsMonotonicTree child_with_more_bytes
child_with_more_bytes-breaks tree =
    let less = tree.grants_no_more 0 1 _ _
    (parent_of (record { slot = _; is_slot = record { found = refl }; is_parent = refl }))
    (record { found = refl }) (record { found = refl }) in
    let top = less.bytes.to_top in
    absurd (omega (arith, top))

pub revoked_child_with_more_permissions-breaks : ¬ IsMonotonicTree revoked_child_with_more_permissions
revoked_child_with_more_permissions-breaks tree =
    let less = tree.grants_no_more 0 1 _ _
    (parent_of (record { slot = _; is_slot = record { found = refl }; is_parent = refl }))
    (record { found = refl }) (record { found = refl }) in
    let all : 0 ≡ 0xffff = less.permissions in
    absurd (omega (arith, all))

pub sealed_by_none-breaks : ¬ HasSealingAuthority sealed_by_none
sealed_by_none-breaks authority =
    let by = authority.sealing 0 _ (record { found = refl }) (omega arith) in
    let e = by.is_parent in
    cc

pub unsealed_by_none-breaks : ¬ HasSealingAuthority unsealed_by_none
unsealed_by_none-breaks authority =
    by_number (authority.unsealing 0 1 _ (record { slot = _; is_slot = record { found = refl }; is_parent = refl })
    (record { found = refl }) (omega arith))
  where
    at_first : (slot : SlotState) → IsSlot unsealed_by_none 0 slot → slot.capability.otype ≡ unsealed_type → ⊥
    at_first slot is unsealed =
        let same : first_slot (sealed_with root_capability 0) ≡ slot = (let e = is.found in cc) in
        let otype : 0 ≡ slot.capability.otype = ap (λ (s : SlotState). s.capability.otype) same in
        absurd (omega (arith, otype, unsealed))

    by_number : HasAuthorityBefore unsealed_by_none 1 unseal_permission 0 → ⊥
    by_number has =
        let first : has.authority ≡ 0 = (let b = has.before in omega (arith, b)) in
        at_first has.slot (subst (λ (n : ℕ). IsSlot unsealed_by_none n has.slot) first has.is_slot) has.is_authority.unsealed

-- ---- objects

pub object_without_pool-breaks : ¬ HangsFromPool object_without_pool
object_without_pool-breaks hangs =
    let child = hangs.child 1 _ (record { found = refl }) in
    let e = child.is_pool.is_pool in
    cc

pub slot_of_two_objects-breaks : ¬ HangsFromPool slot_of_two_objects
slot_of_two_objects-breaks hangs =
    let one : 1 ≡ 2 = hangs.at_most_one 1 2 _ _ 1 (record { found = refl }) (record { found = refl }) (inl refl) (inl refl) in
    absurd (omega (arith, one))

pub object_with_another_byte-breaks : ¬ HasExactObjects object_with_another_byte
object_with_another_byte-breaks exact =
    let most = (exact.exact 1 _ _ (record { found = refl }) (record { found = refl })).at_most in
    absurd (omega (arith, most))

pub object_without_bytes-breaks : ¬ HasExactObjects object_without_bytes
object_without_bytes-breaks exact =
    let some = (exact.exact 1 _ _ (record { found = refl }) (record { found = refl })).some in
    absurd (omega (arith, some))

pub object_off_alignment-breaks : ¬ HasExactObjects object_off_alignment
object_off_alignment-breaks exact =
    let law = exact.exact 1 _ _ (record { found = refl }) (record { found = refl }) in
    let aligned : 1 % law.unit ≡ 0 = law.aligned in
    let computed : law.unit ≡ unit_of Sixteen 1 = IsUnit-one Sixteen 1 law.unit (omega arith) law.is_unit in
    let one = granule_of-short (from_zero 1) (omega arith) in
    let unit : law.unit ≡ 16 = omega (arith, one, computed) in
    let none : 1 % 16 ≡ 0 = subst (λ (u : ℕ). 1 % u ≡ 0) unit aligned in
    absurd (omega (arith, none))

pub live_in_freed-breaks : ¬ HasDisjointObjects live_in_freed
live_in_freed-breaks disjoint =
    disjoint.apart 1 2 _ _ 1 2 _ _
    (record { is_object = record { found = refl }; held = refl }) (record { is_object = record { found = refl }; held = refl })
    (λ one. absurd (omega (arith, one))) (inl refl) (inl refl) (record { found = refl }) (record { found = refl })
    (record {
      byte = 0;
      in_one = record { from_base = omega arith; below_top = omega arith };
      in_other = record { from_base = omega arith; below_top = omega arith };
    })

pub revoked_without_object-breaks : ¬ IsRevokedExactly revoked_without_object
revoked_without_object-breaks exactly = by_object ((exactly.revoked 1 _ (record { found = refl })).0 refl)
  where
    none : (number : ℕ) (object : Object) → IsObject revoked_without_object number object → ⊥
    none zero object is = let e = is.found in cc
    none (suc before) object is = let e = is.found in cc

    by_object : BelongsToSome revoked_without_object Swept 1 → ⊥
    by_object some = none some.number some.object some.is_object

pub revoked_while_live-breaks : ¬ IsRevokedExactly revoked_while_live
revoked_while_live-breaks exactly = by_object ((exactly.revoked 1 _ (record { found = refl })).0 refl)
  where
    live : (number : ℕ) (object : Object) → IsObject revoked_while_live number object → object.state ≡ Swept → ⊥
    live zero object is swept = let e = is.found in cc
    live (suc zero) object is swept =
        let found : Ok (counterexample_object 1 Live) ≡ Ok object = is.found in
        let same : counterexample_object 1 Live ≡ object = (let e = found in cc) in
        let mark : Live ≡ object.state = ap (λ (o : Object). o.state) same in
        cc
    live (suc (suc before)) object is swept = let e = is.found in cc

    by_object : BelongsToSome revoked_while_live Swept 1 → ⊥
    by_object some = live some.number some.object some.is_object some.has_mark

pub tagged_after_sweep-breaks : ¬ IsRevokedExactly tagged_after_sweep
tagged_after_sweep-breaks exactly =
    let revoked : false ≡ true = (exactly.revoked 1 _ (record { found = refl })).1 (record {
      number = 1;
      object = counterexample_object 1 Swept;
      is_object = record { found = refl };
      has_mark = refl;
      belongs = inl refl;
    }) in
    cc

pub revoked_pool-breaks : ¬ IsRevokedExactly revoked_pool
revoked_pool-breaks exactly =
    let tagged : true ≡ false = exactly.pool_stays 0 _ (record { is_pool = refl; is_slot = record { found = refl } }) in
    cc

-- ---- runs

-- of a state whose one slot has no permission none may seal or unseal
none-may : (cap : Capability) (permission otype : ℕ) → cap.permissions ≡ 0 → permission ≢ 0
    → NoneMay is_first (of_slots (first_slot cap ∷ [])) permission otype
none-may cap permission otype none some (suc number) slot given is has = let e = is.found in cc
none-may cap permission otype none some zero slot given is has =
    let same : first_slot cap ≡ slot = (let e = is.found in cc) in
    let e : cap.permissions ≡ slot.capability.permissions = ap (λ (s : SlotState). s.capability.permissions) same in
    let f : slot.capability.permissions ≡ 0 = sym e ∙ none in
    let g : bit_and 0 permission ≡ permission = rw f at has in
    absurd (some (sym g))

-- the parent of the new slot is slot 1, which has none
parent-of_new : (parent : ℕ) → IsParent child_of_another parent 2 → parent ≡ 1
parent-of_new parent is =
    let same : tagged_slot powerless_root (Some 1) ≡ is.slot = (let e = is.is_slot.found in cc) in
    let link : Some 1 ≡ Some parent = ap (λ (s : SlotState). s.parent) same ∙ is.is_parent in
    cc

parent-of_other : (parent : ℕ) → IsParent child_of_another parent 1 → ⊥
parent-of_other parent is =
    let same : first_slot powerless_root ≡ is.slot = (let e = is.is_slot.found in cc) in
    let link : None ≡ Some parent = ap (λ (s : SlotState). s.parent) same ∙ is.is_parent in
    cc

above-other : {ancestor : ℕ} → IsAncestor child_of_another ancestor 1 → ⊥
above-other {ancestor} (parent_of is) = parent-of_other ancestor is
above-other (above_parent {parent = parent} is further) = parent-of_other parent is

above-new : {ancestor : ℕ} → IsAncestor child_of_another ancestor 2 → ancestor ≡ 1
above-new {ancestor} (parent_of is) = parent-of_new ancestor is
above-new {ancestor} (above_parent {parent = parent} is further) =
    absurd (above-other (subst (λ (n : ℕ). IsAncestor child_of_another ancestor n) (parent-of_new parent is) further))

pub child_of_another-breaks : ¬ IsConfined is_first two_slots child_of_another
child_of_another-breaks confined = by_ancestor (confined.derived 2 (omega arith) (omega arith))
  where
    not_given : (slot : ℕ) → slot ≡ 1 → IsTrue (is_first slot) → ⊥
    not_given slot is given = let e = rw is at given in cc

    by_ancestor : HasGivenAncestor is_first two_slots child_of_another 2 → ⊥
    by_ancestor has = not_given has.ancestor (above-new has.is_ancestor) has.is_given

pub child_unsealed-breaks : ¬ IsConfined is_first sealed_alone child_unsealed
child_unsealed-breaks confined =
    confined.none_unsealed 0 (none-may _ _ _ refl (λ e. absurd (omega (arith, e)))) 0 1 _ (omega arith)
    (record { slot = _; is_slot = record { found = refl }; is_parent = refl }) (record { found = refl }) (omega arith) refl

pub child_sealed-breaks : ¬ IsConfined is_first unsealed_alone child_sealed
child_sealed-breaks confined =
    confined.none_sealed 0 (none-may _ _ _ refl (λ e. absurd (omega (arith, e)))) 1 _ (omega arith)
    (record { found = refl }) (omega arith) refl

pub five_refusals-break : ¬ ReachesAll root_alone (path_to root_capability 0 1) five_refusals root_alone
five_refusals-break reaches =
    let ends = reaches 0 _ root_capability (record { found = refl }) refl refl (omega arith) root-IsCapability refl
    (GrantsNoMore-itself root_capability) refl in
    let e = ends.is_slot.found in
    cc

-- ---- a step

-- the exponent of the whole address space
whole-exponent : exponent_of (from_zero (2 ^ 64)) ≡ 52
whole-exponent =
    let own = exponent_of-long (from_zero (2 ^ 64)) (omega arith) (omega arith) in
    let most = least-fits (from_zero (2 ^ 64)) _ (omega arith) own in
    let least = whole-least _ own.few in
    omega (arith, most, least)

-- for which the first address past the end is representable
past_end-representable : Represents (from_zero (2 ^ 64)) (2 ^ 64)
past_end-representable =
    (represents-computed (from_zero (2 ^ 64)) (2 ^ 64) (record { in_order = omega arith; base_fits = omega arith; top_fits = omega arith })).0
    (subst (λ (e : ℕ). IsRepresentable 0 e (2 ^ 64)) (sym whole-exponent)
    (record { laps = 0; from_start = omega arith; below_end = omega arith }))

-- so the root moves there, and has no word then
pub past_end-breaks : (reply : Reply) (new : State) → ¬ Step (initial_state 8) (Addr 0 (2 ^ 64)) reply new
past_end-breaks reply new step = by_rule step.result step.made step.added
  where
    no_word : (result : Result Capability Refusal) → result ≡ Ok (at_address root_capability (2 ^ 64))
        → Adds (initial_state 8) 0 result reply new → ⊥
    no_word (Err refusal) is adds = let e = is in cc
    no_word (Ok cap) is (inr full) = full.0 (omega arith)
    no_word (Ok cap) is (inl added) =
        let same : cap ≡ at_address root_capability (2 ^ 64) = (let e = is in cc) in
        let address : cap.address ≡ 2 ^ 64 = ap (λ (c : Capability). c.address) same in
        let fits = added.1.is_word.is_capability.address_fits in
        absurd (omega (arith, address, fits))

    by_rule : (result : Result Capability Refusal) → SetsAddress root_capability (2 ^ 64) result
        → Adds (initial_state 8) 0 result reply new → ⊥
    by_rule result (inr sealed) adds = absurd (sealed.0 refl)
    by_rule result (inl (_, inr not)) adds = absurd (not.0 past_end-representable)
    by_rule result (inl (_, inl (_, is))) adds = no_word result is adds

-- ---- bytes of objects

pub reused_before_revocation-breaks : ¬ ReusesAfterRevocation reused_before_revocation
reused_before_revocation-breaks reuses =
    let same : 1 ≡ 2 =
    reuses.same 1 2 _ _ 1 2 _ _ (record { found = refl }) (record { is_object = record { found = refl }; held = refl })
    (inl refl) (inl refl) (record { found = refl }) (record { found = refl }) refl
    (record {
      byte = 0;
      in_one = record { from_base = omega arith; below_top = omega arith };
      in_other = record { from_base = omega arith; below_top = omega arith };
    }) in
    absurd (omega (arith, same))

pub objects_past_the_pool-break : (slot : SlotState) → IsPool objects_past_the_pool 0 slot
    → ¬ (held_bytes_of objects_past_the_pool ≤ length_of slot.capability.span)
objects_past_the_pool-break slot is fits =
    let at : Some (first_slot (bounded_root 0 1)) ≡ Some slot = is.is_slot.found in
    let same : first_slot (bounded_root 0 1) ≡ slot = (let e = at in cc) in
    let length : length_of slot.capability.span ≡ 1 = sym (ap (λ (s : SlotState). length_of s.capability.span) same) in
    absurd (omega (arith, fits, length))

pub object_past_the_pool-breaks : (slot own : SlotState) → IsPool objects_past_the_pool 0 slot → IsSlot objects_past_the_pool 2 own
    → ¬ IsWithin own.capability.span slot.capability.span
object_past_the_pool-breaks slot own is is_own within =
    let at : Some (first_slot (bounded_root 0 1)) ≡ Some slot = is.is_slot.found in
    let same : first_slot (bounded_root 0 1) ≡ slot = (let e = at in cc) in
    let at_own : Some (child_slot (bounded_root 1 1)) ≡ Some own = is_own.found in
    let same_own : child_slot (bounded_root 1 1) ≡ own = (let e = at_own in cc) in
    let top : slot.capability.span.top ≡ 1 = sym (ap (λ (s : SlotState). s.capability.span.top) same) in
    let top_own : own.capability.span.top ≡ 2 = sym (ap (λ (s : SlotState). s.capability.span.top) same_own) in
    absurd (omega (arith, within.to_top, top, top_own))

pub child_of_the_pool-breaks : ¬ IsConfinedToObject two_objects child_of_the_pool 1 (counterexample_object 1 Live)
child_of_the_pool-breaks confined = by_belongs (confined.belongs 3 (omega arith) (omega arith))
  where
    parent : {above : ℕ} → IsParent child_of_the_pool above 3 → above ≡ 0
    parent {above} is =
        let at : Some (child_slot (bounded_root 2 1)) ≡ Some is.slot = is.is_slot.found in
        let same : child_slot (bounded_root 2 1) ≡ is.slot = (let e = at in cc) in
        let e : Some 0 ≡ Some above = ap (λ (s : SlotState). s.parent) same ∙ is.is_parent in
        let f : 0 ≡ above = (let g = e in cc) in
        sym f

    root : {above : ℕ} → IsParent child_of_the_pool above 0 → ⊥
    root {above} is =
        let at : Some (first_slot root_capability) ≡ Some is.slot = is.is_slot.found in
        let same : first_slot root_capability ≡ is.slot = (let e = at in cc) in
        let e : None ≡ Some above = ap (λ (s : SlotState). s.parent) same ∙ is.is_parent in
        cc

    above_root : {above number : ℕ} → number ≡ 0 → IsAncestor child_of_the_pool above number → ⊥
    above_root {above} {number} is (parent_of at) = root (subst (λ (n : ℕ). IsParent child_of_the_pool above n) is at)
    above_root {above} {number} is (above_parent {parent = mid} at up) = root (subst (λ (n : ℕ). IsParent child_of_the_pool mid n) is at)

    by_ancestor : IsAncestor child_of_the_pool 1 3 → ⊥
    by_ancestor (parent_of at) = absurd (omega (arith, parent at))
    by_ancestor (above_parent at up) = above_root (parent at) up

    by_belongs : BelongsTo child_of_the_pool (counterexample_object 1 Live) 3 → ⊥
    by_belongs (inl same) = absurd (omega (arith, same))
    by_belongs (inr up) = by_ancestor up

pub child_in_another_object-breaks : ¬ IsConfinedToObject two_objects child_in_another_object 1 (counterexample_object 1 Live)
child_in_another_object-breaks confined =
    confined.apart 2 _ 3 2 _ _ (record { is_object = record { found = refl }; held = refl })
    (λ one. absurd (omega (arith, one))) (inl refl) (record { found = refl }) (omega arith) (record { found = refl })
    (record {
      byte = 1;
      in_one = record { from_base = omega arith; below_top = omega arith };
      in_other = record { from_base = omega arith; below_top = omega arith };
    })

pub child_tagged_after_sweep-breaks : ¬ IsConfinedToObject two_objects child_tagged_after_sweep 1 (counterexample_object 1 Live)
child_tagged_after_sweep-breaks confined =
    let revoked : false ≡ true = confined.revoked (counterexample_object 1 Swept) 3 _ (record { found = refl }) refl (omega arith) (record { found = refl }) in
    cc

-- ---- those of each law

pub ruleset slots_break = (unsound_bounds-breaks, address_past_the_end-breaks, reserved_type-breaks)

pub ruleset trees_break = (own_parent-breaks, child_with_more_bytes-breaks, revoked_child_with_more_permissions-breaks)

pub ruleset sealing_breaks = (sealed_by_none-breaks, unsealed_by_none-breaks)

pub ruleset hanging_breaks = (object_without_pool-breaks, slot_of_two_objects-breaks)

pub ruleset revocation_breaks = (revoked_without_object-breaks, revoked_while_live-breaks, tagged_after_sweep-breaks, revoked_pool-breaks)

pub ruleset confinement_breaks = (child_of_another-breaks, child_unsealed-breaks, child_sealed-breaks)

pub ruleset exactness_breaks = (object_without_bytes-breaks, object_off_alignment-breaks, object_with_another_byte-breaks)

pub ruleset disjointness_breaks = (live_in_freed-breaks)

pub ruleset reuse_breaks = (reused_before_revocation-breaks)

pub ruleset pool_breaks = (objects_past_the_pool-break, object_past_the_pool-breaks)

pub ruleset object_confinement_breaks = (child_of_the_pool-breaks, child_in_another_object-breaks, child_tagged_after_sweep-breaks)

pub ruleset reaching_breaks = (five_refusals-break)
