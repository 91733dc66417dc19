-- All that grants no more is reached.
use Rattle.std.proofs.Common.{◌≡◌, ◌+◌, ◌-◌, ◌∙◌, inl, refl, sym, ap, subst, Ok, arith}
use Rattle.cc_bounds.specs.declared.span.Span.{Span}
use Rattle.cc_bounds.specs.Span.{IsWithin, length_of, span_from}
use Rattle.cc_bounds.specs.Granule.{IsSound}
use Rattle.cc_bounds.specs.Window.{Represents}
use Rattle.cc_bounds.proofs.SoundDecodingLemmas.{inside-Represents}
use Rattle.cc_cap.specs.Capability.{Capability, IsCapability, IsUnsealed, GrantsNoMore, at_address, with_span, with_permissions, with_flag}
use Rattle.cc_cap.specs.Reach.{IsReachable}
use Rattle.std.specs.Int.RustNames.{bit_and}

pub GrantsNoMore-IsReachable : (from to : Capability) → IsCapability from → IsCapability to → IsUnsealed from → IsUnsealed to
    → GrantsNoMore to from → IsReachable from to
GrantsNoMore-IsReachable from to is_from is_to from_unsealed to_unsealed no_more =
    let request : Span = span_from to.span.base (length_of to.span) in
    let top : to.span.base + (to.span.top - to.span.base) ≡ to.span.top = omega (arith, is_to.is_span.in_order) in
    let whole : request ≡ to.span = λ i. record { base = to.span.base; top = top i } in
    let inside : IsWithin request from.span = subst (λ (span : Span). IsWithin span from.span) (sym whole) no_more.bytes in
    let exact : IsSound request = subst (λ (span : Span). IsSound span) (sym whole) is_to.sound in
    let at_base = inside-Represents from.span to.span.base is_from.is_span is_from.sound no_more.bytes.from_base
    (omega (arith, is_to.is_span.in_order, no_more.bytes.to_top)) in
    let at_end : Represents request to.address = subst (λ (span : Span). Represents span to.address) (sym whole) is_to.representable in
    let made : with_flag (with_permissions (at_address (with_span (at_address from to.span.base) request) to.address)
    (bit_and from.permissions to.permissions)) to.flag ≡ to =
    λ i. record {
      span = whole i;
      address = to.address;
      permissions = no_more.permissions i;
      flag = to.flag;
      otype = (from_unsealed ∙ sym to_unsealed) i;
    } in
    record {
      at_base = at_address from to.span.base;
      in_bounds = with_span (at_address from to.span.base) request;
      in_place = at_address (with_span (at_address from to.span.base) request) to.address;
      with_mask = with_permissions (at_address (with_span (at_address from to.span.base) request) to.address)
          (bit_and from.permissions to.permissions);
      moved = inl (from_unsealed, inl (at_base, refl));
      bounded = inl (from_unsealed, inl (inside, inl (exact, refl)));
      placed = inl (from_unsealed, inl (at_end, refl));
      masked = inl (from_unsealed, refl);
      flagged = inl (from_unsealed, ap (λ (cap : Capability). Ok cap) (sym made));
    }
