use Rattle.std.proofs.Common.{ℕ, ◌≡◌, ◌^◌, ◌∙◌, ap, inl, inr, sym, subst, IfOk, Result, Ok}
use Rattle.std.proofs.lemmas.Nat.{and_assoc}
use Rattle.std.proofs.lemmas.Result.{IfOk-weaker}
use Rattle.std.specs.Int.Bits.{and_self, and_comm}
use Rattle.std.specs.Int.RustNames.{bit_and}
use Rattle.cc_word.specs.declared.refusal.Refusal.{Refusal}
use Rattle.cc_bounds.specs.declared.span.Span.{Span}
use Rattle.cc_bounds.specs.Granule.{IsGranted}
use Rattle.cc_bounds.specs.Span.{span_from}
use Rattle.cc_cap.specs.Capability.{Capability, GrantsNoMore, at_address, with_span}
use Rattle.cc_cap.specs.Derivation.{MasksPermissions, SetsAddress, SetsBounds}
use Rattle.cc_word.specs.Permissions.{HasAll}
use Rattle.cc_cap.proofs.DerivationLemmas.{GrantsNoMore-chain}
use Rattle.cc_example.proofs.reading.read_only.Goals as goal

pub returns-clause-monotonic : goal.returns-clause-monotonic
returns-clause-monotonic c =
    let cap = c.args.cap.now in
    let placed = c.in_ok-set_address in
    let bounded = c.in_ok-set_bounds in
    let within = GrantsNoMore-chain bounded.field-0 placed.field-0 cap bounded.ensures.monotonic placed.ensures.monotonic in
    IfOk-weaker c.and_perms.result (λ made. GrantsNoMore made bounded.field-0) (λ made. GrantsNoMore made cap)
    (λ made more. GrantsNoMore-chain made bounded.field-0 cap more within) c.and_perms.ensures.monotonic

-- what the mask leaves is in the mask
masked : (cap : Capability) (result : Result Capability Refusal) → MasksPermissions cap (2 ^ 2) result → IfOk result (λ made. HasAll (2 ^ 2) made.permissions)
masked cap result (inl (_, is)) =
    subst (λ (r : Result Capability Refusal). IfOk r (λ made. HasAll (2 ^ 2) made.permissions)) (sym is) (by cap.permissions)
  where
    by : (permissions : ℕ) → HasAll (2 ^ 2) (bit_and permissions (2 ^ 2))
    by permissions = and_comm (2 ^ 2) (bit_and permissions (2 ^ 2)) ∙ and_assoc (2 ^ 2) permissions (2 ^ 2) ∙ ap (bit_and permissions) (and_self (2 ^ 2))
masked cap result (inr (_, is)) = subst (λ (r : Result Capability Refusal). IfOk r (λ made. HasAll (2 ^ 2) made.permissions)) (sym is) tt

-- masking permissions leaves the bytes that were granted
same_bytes : (cap : Capability) (mask : ℕ) (result : Result Capability Refusal) (request : Span) → MasksPermissions cap mask result → IsGranted request cap.span
    → IfOk result (λ made. IsGranted request made.span)
same_bytes cap mask result request (inl (_, is)) granted = subst (λ (r : Result Capability Refusal). IfOk r (λ made. IsGranted request made.span)) (sym is) granted
same_bytes cap mask result request (inr (_, is)) granted = subst (λ (r : Result Capability Refusal). IfOk r (λ made. IsGranted request made.span)) (sym is) tt

pub returns-clause-load : goal.returns-clause-load
returns-clause-load c = masked c.in_ok-set_bounds.field-0 c.and_perms.result c.and_perms.ensures.made

-- a capability whose address was set has that address
placed_at : (cap placed : Capability) (address : ℕ) → SetsAddress cap address (Ok placed) → placed.address ≡ address
placed_at cap placed address (inl (_, inl (_, is))) = let same : placed ≡ at_address cap address = cc in ap (λ (c : Capability). c.address) same
placed_at cap placed address (inl (_, inr (_, is))) = cc
placed_at cap placed address (inr (_, is)) = cc

-- a capability whose bounds were set has the granted span of the request
granted_bytes : (cap bounded : Capability) (length : ℕ) → SetsBounds cap length (Ok bounded) → IsGranted (span_from cap.address length) bounded.span
granted_bytes cap bounded length (inl (_, inl (_, (granted, is_granted, is)))) =
    let same : bounded ≡ with_span cap granted = cc in
    subst (λ (c : Capability). IsGranted (span_from cap.address length) c.span) (sym same) is_granted
granted_bytes cap bounded length (inl (_, inr (_, is))) = cc
granted_bytes cap bounded length (inr (_, is)) = cc

pub returns-clause-bytes : goal.returns-clause-bytes
returns-clause-bytes c =
    let cap = c.args.cap.now in
    let placed = c.in_ok-set_address in
    let bounded = c.in_ok-set_bounds in
    let base : placed.field-0.address ≡ cap.span.base =
    placed_at cap placed.field-0 c.span.result.base placed.ensures.made ∙ ap (λ (s : Span). s.base) c.span.ensures.span in
    let granted = granted_bytes placed.field-0 bounded.field-0 c.args.len bounded.ensures.made in
    same_bytes bounded.field-0 (2 ^ 2) c.and_perms.result (span_from cap.span.base c.args.len) c.and_perms.ensures.made
    (subst (λ (b : ℕ). IsGranted (span_from b c.args.len) bounded.field-0.span) base granted)
