-- The bounds that the root capability is granted for a request.
use Rattle.std.proofs.Common.{◌≡◌, ℕ, ◌+◌, ◌*◌, ◌%◌, ◌<◌, ◌≤◌, ◌^◌, ◌∙◌, ap, inl, inr, refl, subst, sym, arith}
use Rattle.std.proofs.Math.Nat.{mod-eq_of_lt}
use Rattle.std.proofs.Math.Pow.{pow-add, pow_mono}
use Rattle.std.specs.Prelude.{Result, Ok}
use Rattle.cc_word.specs.declared.refusal.Refusal.{Refusal}
use Rattle.cc_bounds.specs.declared.span.Span.{Span}
use Rattle.cc_bounds.specs.Span.{IsSpan, from_zero, length_of, span_from}
use Rattle.cc_bounds.specs.Granule.{IsGranted, IsGranule, exponent_of}
use Rattle.cc_bounds.proofs.ComputingLemmas.{granule_of-is, granule_of-long}
use Rattle.cc_bounds.proofs.LawLemmas.{same_exponent}
use Rattle.cc_bounds.proofs.SoundLemmas.{same_span}
use Rattle.cc_bounds.proofs.SoundDecodingLemmas.{inside-Represents}
use Rattle.cc_cap.specs.Capability.{Capability, at_address, root_capability}
use Rattle.cc_cap.specs.Derivation.{SetsAddress, SetsBounds}
use Rattle.cc_cap.proofs.BoundsLemmas.{root-IsCapability}
use Rattle.cc_explain.specs.Request.{granted_capability}

-- A request is the span of its length from its base on.
pub span_from-is : (request : Span) (size : ℕ) → IsSpan request → size ≡ length_of request → span_from request.base size ≡ request
span_from-is request size is_span is_size =
    let order = is_span.in_order in
    same_span (span_from request.base size) request refl (omega (arith, is_size, order))

-- The granule of a request of at least 4,096 bytes is eight times two to the exponent of the
-- granted span.
pub long_granule : (request granted : Span) (exponent : ℕ) → IsSpan request → IsGranted request granted → 4096 ≤ length_of request
    → exponent ≡ exponent_of granted → exponent ≤ 52 → IsGranule request (8 * 2 ^ exponent % 2 ^ 64)
long_granule request granted exponent is_span is_granted long is_exponent fits =
    let same : exponent ≡ exponent_of request = is_exponent ∙ same_exponent request granted is_span is_granted in
    let small : 2 ^ exponent ≤ 2 ^ 52 = pow_mono fits in
    let scaled = pow-add 2 exponent 3 in
    let whole : 8 * 2 ^ exponent % 2 ^ 64 ≡ 2 ^ (exponent + 3) = mod-eq_of_lt (omega (arith, small)) ∙ omega (arith, scaled) in
    let is : 8 * 2 ^ exponent % 2 ^ 64 ≡ 2 ^ (exponent_of request + 3) = whole ∙ ap (λ (e : ℕ). 2 ^ (e + 3)) same in
    subst (λ (g : ℕ). IsGranule request g) (granule_of-long request long ∙ sym is) (granule_of-is request is_span)

-- The root's address can be moved to each address.
pub root_moves : (base : ℕ) (result : Result Capability Refusal) → base < 2 ^ 64 → SetsAddress root_capability base result
    → result ≡ Ok (at_address root_capability base)
root_moves base result fits (inl (unsealed, inl (within, is))) = is
root_moves base result fits (inl (unsealed, inr (outside, is))) =
    absurd (outside (inside-Represents (from_zero (2 ^ 64)) base root-IsCapability.is_span root-IsCapability.sound (omega arith) (omega (arith, fits))))
root_moves base result fits (inr (sealed, is)) = absurd (sealed refl)

-- The root is granted each request within the address space.
pub root_grants : (request : Span) (size : ℕ) (result : Result Capability Refusal) → IsSpan request → size ≡ length_of request
    → SetsBounds (at_address root_capability request.base) size result
    → (granted : Span) × IsGranted request granted × (result ≡ Ok (granted_capability request granted))
root_grants request size result is_span is_size (inl (unsealed, inl (within, (granted, is_granted, is)))) =
    (granted, subst (λ (s : Span). IsGranted s granted) (span_from-is request size is_span is_size) is_granted, is)
root_grants request size result is_span is_size (inl (unsealed, inr (outside, is))) =
    let order = is_span.in_order in
    let top = is_span.top_fits in
    absurd (outside (record { from_base = omega arith; to_top = omega (arith, is_size, order, top) }))
root_grants request size result is_span is_size (inr (sealed, is)) = absurd (sealed refl)
