-- How each operation that derives does so: the slot that it names, its rule, and what the proofs need of the rule.
use Rattle.std.proofs.Common.{ℕ, Bool, true, false, ◌≡◌, ◌∙◌, ◌+◌, ◌%◌, ◌^◌, List, Option, Some, None, Result, Ok, Err, MatchResult, refl, sym, subst, inl, inr, arith}
use Rattle.std.specs.List.{slice_get}
use Rattle.std.specs.Int.RustNames.{bit_and}
use Rattle.cc_word.specs.Refusal.{RefusedUnless}
use Rattle.cc_word.specs.declared.refusal.Refusal.{Refusal}
use Rattle.cc_word.specs.Permissions.{bits_of, seal_permission, unseal_permission}
use Rattle.cc_cap.specs.Capability.{Capability, IsCapability, IsUnsealed, IsSealed, Grants, GrantsNoMore, at_address, with_span, with_permissions, with_flag, sealed_with, unsealed_by}
use Rattle.cc_cap.specs.Derivation.{request_of, SetsAddress, Increments, SetsBounds, SetsExactBounds, MasksPermissions, SetsFlag, Seals, Unseals, Rebuilds}
use Rattle.cc_cap.proofs.OneResultLemmas.{SetsAddress-one, SetsBounds-one, SetsExactBounds-one, MasksPermissions-one, SetsFlag-one, Seals-one, Unseals-one, Rebuilds-one}
use Rattle.cc_cap.proofs.SubsetLemmas.{SetsAddress-grants, SetsBounds-grants, SetsExactBounds-grants, MasksPermissions-grants, SetsFlag-grants, Seals-grants, Unseals-grants, Rebuilds-grants}
use Rattle.cc_bounds.specs.declared.align.Align.{Align}
use Rattle.cc_values.specs.declared.op.Op.{Op}
use Rattle.cc_values.specs.declared.op.Op.TheVariants.{Show, Bounds, Exact, Addr, Inc, Perms, Flag, Seal, Unseal, Rebuild, Round, Pool, Alloc, Free, Sweep}
use Rattle.cc_values.specs.declared.reply.Reply.{Reply}
use Rattle.cc_machine.specs.State.{State, SlotState, IsSlot}
use Rattle.cc_machine.specs.Step.{usable, usable_slot, OnSlot, Derives, Step}
use Rattle.cc_machine.specs.Laws.{IsAuthority}
use Rattle.cc_machine.specs.Confinement.{Uses}

-- a slot that can be used, of whose capability the rule holds
pub record IsUsable (state : State) (number : ℕ) (Rule : Capability → Type 0) : Type 0 where
  pub slot : SlotState
  pub is_slot : IsSlot state number slot
  pub tagged : slot.revoked ≡ false
  pub holds : Rule slot.capability

-- a rule that gives a capability was applied to a slot that can be used
pub OnSlot-usable_slot : (state : State) (number : ℕ) (cap : Capability) (Rule : Capability → Type 0)
    → OnSlot state.slots number (Ok cap) Rule → IsUsable state number Rule
OnSlot-usable_slot state number cap Rule on = by_found (slice_get state.slots number) refl on
  where
    by_tag : (slot : SlotState) (revoked : Bool) → slot.revoked ≡ revoked → slice_get state.slots number ≡ Some slot
        → MatchResult (usable (Some (record slot { revoked = revoked }))) (λ s. Rule s.capability) (λ refusal. Ok cap ≡ Err refusal)
        → IsUsable state number Rule
    by_tag slot true is found holds = let e = holds in cc
    by_tag slot false is found holds = record { slot = slot; is_slot = record { found = found }; tagged = is; holds = holds }

    by_found : (found : Option SlotState) → slice_get state.slots number ≡ found
        → MatchResult (usable found) (λ slot. Rule slot.capability) (λ refusal. Ok cap ≡ Err refusal) → IsUsable state number Rule
    by_found None is holds = let e = holds in cc
    by_found (Some slot) is holds = by_tag slot slot.revoked refl is holds

-- a rule with one result has one on a slot
pub OnSlot-one : (slots : List SlotState) (number : ℕ) (Rule : Capability → Result Capability Refusal → Type 0) (result result' : Result Capability Refusal)
    → ((cap : Capability) → Rule cap result → Rule cap result' → result ≡ result')
    → OnSlot slots number result (λ cap. Rule cap result) → OnSlot slots number result' (λ cap. Rule cap result') → result ≡ result'
OnSlot-one slots number Rule result result' one = by_found (usable_slot slots number)
  where
    by_found : (found : Result SlotState Refusal)
        → MatchResult found (λ slot. Rule slot.capability result) (λ refusal. result ≡ Err refusal)
        → MatchResult found (λ slot. Rule slot.capability result') (λ refusal. result' ≡ Err refusal) → result ≡ result'
    by_found (Ok slot) rule rule' = one slot.capability rule rule'
    by_found (Err refusal) e e' = e ∙ sym e'

-- no capability is both sealed and unsealed
pub sealed-unsealed : (cap : Capability) → IsSealed cap → IsUnsealed cap → ⊥
sealed-unsealed cap sealed unsealed = absurd (omega (arith, sealed, unsealed))

-- a slot that the operation uses, with an authority for the type
pub record IsUsedAuthority (old : State) (op : Op) (permission otype : ℕ) : Type 0 where
  pub authority : ℕ
  pub slot : SlotState
  pub uses : Uses old op authority
  pub is_slot : IsSlot old authority slot
  pub is_authority : IsAuthority slot.capability permission otype

-- what is known of a capability that an operation derives from another
pub record IsGrowth (old : State) (op : Op) (parent cap : Capability) : Type 0 where
  pub exists : IsCapability cap
  pub grants_no_more : GrantsNoMore cap parent
  pub unsealing : IsSealed parent → IsUsedAuthority old op unseal_permission parent.otype
  pub from_unsealed : IsSealed cap → IsUnsealed parent
  pub sealing : IsSealed cap → IsUsedAuthority old op seal_permission cap.otype

-- between unsealed capabilities a derivation takes no authority
pub plain : (old : State) (op : Op) (parent cap : Capability) → IsCapability cap → GrantsNoMore cap parent → IsUnsealed parent → IsUnsealed cap
    → IsGrowth old op parent cap
plain old op parent cap is grants_no_more from_unsealed unsealed = record {
  exists = is;
  grants_no_more = grants_no_more;
  unsealing = λ sealed. absurd (sealed-unsealed parent sealed from_unsealed);
  from_unsealed = λ sealed. absurd (sealed-unsealed cap sealed unsealed);
  sealing = λ sealed. absurd (sealed-unsealed cap sealed unsealed);
}

-- a rule that gives a capability has passed its first check
passes : {condition rest : Type 0} {refusal : Refusal} {cap : Capability} → RefusedUnless condition (Ok cap ≡ Err refusal) rest → condition × rest
passes (inl holds) = holds
passes (inr fails) = let e = fails.1 in cc

-- an operation that derives: the slot that it names first, and its rule, which has one result
pub record Derivation (old : State) (op : Op) : Type 1 where
  pub number : ℕ
  pub Rule : Capability → Result Capability Refusal → Type 0
  pub step : (reply : Reply) (new : State) → Step old op reply new → Derives old number Rule reply new
  pub uses : Uses old op number
  pub one : (cap : Capability) (result result' : Result Capability Refusal) → Rule cap result → Rule cap result' → result ≡ result'
  pub grows : (parent cap : Capability) → IsCapability parent → IsCapability cap → Rule parent (Ok cap) → IsGrowth old op parent cap

-- a fact of each operation, by one of all that derive, and one of each other
module _ (old : State) (Fact : Op → Type 0)
    (derives : (op : Op) → Derivation old op → Fact op)
    (shows : (number : ℕ) → Fact (Show number)) (rounds : (size : ℕ) → Fact (Round size))
    (pool : (number : ℕ) (align : Align) → Fact (Pool number align)) (alloc : (size : ℕ) → Fact (Alloc size))
    (free : (number : ℕ) → Fact (Free number)) (sweep : Fact Sweep) where
  pub of_each : (op : Op) → Fact op
  of_each (Bounds number size) = derives (Bounds number size) (record {
    number = number;
    Rule = λ cap result. SetsBounds cap size result;
    step = λ reply new step. step;
    uses = refl;
    one = λ cap. SetsBounds-one cap size;
    grows = λ parent cap is_parent is rule.
        let first = passes rule in
        let second = passes first.1 in
        let same : cap ≡ with_span parent second.1.0 = let e = second.1.2 in cc in
        let unsealed : IsUnsealed cap = subst IsUnsealed (sym same) first.0 in
        plain old (Bounds number size) parent cap is (SetsBounds-grants parent size cap is_parent rule) first.0 unsealed;
  })
  of_each (Exact number size) = derives (Exact number size) (record {
    number = number;
    Rule = λ cap result. SetsExactBounds cap size result;
    step = λ reply new step. step;
    uses = refl;
    one = λ cap. SetsExactBounds-one cap size;
    grows = λ parent cap is_parent is rule.
        let first = passes rule in
        let second = passes first.1 in
        let third = passes second.1 in
        let same : cap ≡ with_span parent (request_of parent size) = let e = third.1 in cc in
        let unsealed : IsUnsealed cap = subst IsUnsealed (sym same) first.0 in
        plain old (Exact number size) parent cap is (SetsExactBounds-grants parent size cap is_parent rule) first.0 unsealed;
  })
  of_each (Addr number address) = derives (Addr number address) (record {
    number = number;
    Rule = λ cap result. SetsAddress cap address result;
    step = λ reply new step. step;
    uses = refl;
    one = λ cap. SetsAddress-one cap address;
    grows = λ parent cap is_parent is rule.
        let first = passes rule in
        let second = passes first.1 in
        let same : cap ≡ at_address parent address = let e = second.1 in cc in
        let unsealed : IsUnsealed cap = subst IsUnsealed (sym same) first.0 in
        plain old (Addr number address) parent cap is (SetsAddress-grants parent address cap is_parent rule) first.0 unsealed;
  })
  of_each (Inc number amount) = derives (Inc number amount) (record {
    number = number;
    Rule = λ cap result. Increments cap amount result;
    step = λ reply new step. step;
    uses = refl;
    one = λ cap. SetsAddress-one cap ((cap.address + amount) % 2 ^ 64);
    grows = λ parent cap is_parent is rule.
        let first = passes rule in
        let second = passes first.1 in
        let same : cap ≡ at_address parent ((parent.address + amount) % 2 ^ 64) = let e = second.1 in cc in
        let unsealed : IsUnsealed cap = subst IsUnsealed (sym same) first.0 in
        plain old (Inc number amount) parent cap is (SetsAddress-grants parent ((parent.address + amount) % 2 ^ 64) cap is_parent rule) first.0 unsealed;
  })
  of_each (Perms number mask) = derives (Perms number mask) (record {
    number = number;
    Rule = λ cap result. MasksPermissions cap (bits_of mask) result;
    step = λ reply new step. step;
    uses = refl;
    one = λ cap. MasksPermissions-one cap (bits_of mask);
    grows = λ parent cap is_parent is rule.
        let first = passes rule in
        let same : cap ≡ with_permissions parent (bit_and parent.permissions (bits_of mask)) = let e = first.1 in cc in
        let unsealed : IsUnsealed cap = subst IsUnsealed (sym same) first.0 in
        plain old (Perms number mask) parent cap is (MasksPermissions-grants parent (bits_of mask) cap is_parent rule) first.0 unsealed;
  })
  of_each (Flag number flag) = derives (Flag number flag) (record {
    number = number;
    Rule = λ cap result. SetsFlag cap flag result;
    step = λ reply new step. step;
    uses = refl;
    one = λ cap. SetsFlag-one cap flag;
    grows = λ parent cap is_parent is rule.
        let first = passes rule in
        let same : cap ≡ with_flag parent flag = let e = first.1 in cc in
        let unsealed : IsUnsealed cap = subst IsUnsealed (sym same) first.0 in
        plain old (Flag number flag) parent cap is (SetsFlag-grants parent flag cap is_parent rule) first.0 unsealed;
  })
  of_each (Rebuild authority word) = derives (Rebuild authority word) (record {
    number = authority;
    Rule = λ cap result. Rebuilds cap word result;
    step = λ reply new step. step;
    uses = refl;
    one = λ cap. Rebuilds-one cap word;
    grows = λ parent cap is_parent is rule.
        let first = passes rule in
        let second = passes first.1 in
        let third = passes second.1.2 in
        let same : cap ≡ second.1.0 = let e = third.1 in cc in
        let unsealed : IsUnsealed cap = subst IsUnsealed (sym same) third.0.0 in
        plain old (Rebuild authority word) parent cap is (Rebuilds-grants parent word cap is_parent rule) first.0 unsealed;
  })
  of_each (Seal number authority) = derives (Seal number authority) (record {
    number = number;
    Rule = λ cap result. OnSlot old.slots authority result (λ by. Seals cap by result);
    step = λ reply new step. step;
    uses = inl refl;
    one = λ cap result result'. OnSlot-one old.slots authority (λ by r. Seals cap by r) result result' (λ by. Seals-one cap by result result');
    grows = λ parent cap is_parent is rule.
        let used = OnSlot-usable_slot old authority cap (λ by. Seals parent by (Ok cap)) rule in
        let first = passes used.holds in
        let second = passes first.1 in
        let third = passes second.1 in
        let fourth = passes third.1 in
        let by : Capability = used.slot.capability in
        let same : cap ≡ sealed_with parent by.address = let e = fourth.1 in cc in
        record {
          exists = is;
          grants_no_more = Seals-grants parent by cap is_parent used.holds;
          unsealing = λ sealed. absurd (sealed-unsealed parent sealed first.0.0);
          from_unsealed = λ _. first.0.0;
          sealing = λ _. record {
            authority = authority;
            slot = used.slot;
            uses = inr refl;
            is_slot = used.is_slot;
            is_authority = subst (λ (c : Capability). IsAuthority by seal_permission c.otype) (sym same)
                (record { unsealed = first.0.1; permitted = second.0; at_type = refl; grants = third.0 });
          };
        };
  })
  of_each (Unseal number authority) = derives (Unseal number authority) (record {
    number = number;
    Rule = λ cap result. OnSlot old.slots authority result (λ by. Unseals cap by result);
    step = λ reply new step. step;
    uses = inl refl;
    one = λ cap result result'. OnSlot-one old.slots authority (λ by r. Unseals cap by r) result result' (λ by. Unseals-one cap by result result');
    grows = λ parent cap is_parent is rule.
        let used = OnSlot-usable_slot old authority cap (λ by. Unseals parent by (Ok cap)) rule in
        let first = passes used.holds in
        let second = passes first.1 in
        let third = passes second.1 in
        let fourth = passes third.1 in
        let fifth = passes fourth.1 in
        let by : Capability = used.slot.capability in
        let same : cap ≡ unsealed_by parent by = let e = fifth.1 in cc in
        let unsealed : IsUnsealed cap = subst IsUnsealed (sym same) refl in
        record {
          exists = is;
          grants_no_more = Unseals-grants parent by cap is_parent used.holds;
          unsealing = λ _. record {
            authority = authority;
            slot = used.slot;
            uses = inr refl;
            is_slot = used.is_slot;
            is_authority = record {
              unsealed = second.0;
              permitted = third.0;
              at_type = fifth.0;
              grants = subst (λ (n : ℕ). Grants by n) fifth.0 fourth.0;
            };
          };
          from_unsealed = λ sealed. absurd (sealed-unsealed cap sealed unsealed);
          sealing = λ sealed. absurd (sealed-unsealed cap sealed unsealed);
        };
  })
  of_each (Show number) = shows number
  of_each (Round size) = rounds size
  of_each (Pool number align) = pool number align
  of_each (Alloc size) = alloc size
  of_each (Free number) = free number
  of_each Sweep = sweep
