-- The encodings that a `Cap` keeps.
use Rattle.std.proofs.Common.{ℕ, Bool, ◌≡◌, ◌∙◌, ◌+◌, ◌-◌, ◌^◌, ◌≤◌, ◌↔◌, IsTrue, true, false, Ok, refl, inl, inr, ap, sym, subst, arith}
use Rattle.std.specs.Int.Bits.{and_self}
use Rattle.cc_bounds.specs.declared.span.Span.{Span}
use Rattle.cc_bounds.specs.Span.{IsSpan, IsWithin, from_zero, length_of, span_from}
use Rattle.cc_bounds.specs.Granule.{IsGranted, IsSound, granted_span}
use Rattle.cc_bounds.specs.Encoding.{Encoding}
use Rattle.cc_bounds.proofs.GranuleLemmas.{granted_same}
use Rattle.cc_bounds.proofs.SoundLemmas.{same_span, granted-sound}
use Rattle.cc_bounds.proofs.SoundDecodingLemmas.{inside-Represents}
use Rattle.cc_bounds.proofs.ComputingLemmas.{granted_span-is}
use Rattle.cc_bounds.proofs.TightestLemmas.{granted-tight}
use Rattle.cc_cap.specs.Capability.{Capability, GrantsNoMore, IsCapability, IsUnsealed, at_address, root_capability, with_span}
use Rattle.cc_cap.specs.Derivation.{SetsAddress, SetsBoundsBy, SetsExactBounds, request_of}
use Rattle.cc_cap.proofs.DerivationLemmas.{IsGranted-within}

-- what bounds of this length make of an unsealed capability
pub record IsBounded (cap : Capability) (length : ℕ) (exact : Bool) (made : Capability) : Type 0 where
  pub rule : SetsBoundsBy exact cap length (Ok made)
  pub grants : GrantsNoMore made cap
  pub is_capability : IsCapability made

module _ (cap : Capability) (length : ℕ) (exact : Bool) (set : Encoding) (is_cap : IsCapability cap) (unsealed : IsUnsealed cap)
    (inside : IsWithin (request_of cap length) cap.span) (granted : IsGranted (request_of cap length) set.granted)
    (is_exact : IsTrue set.exact ↔ IsSound (request_of cap length)) (wanted : IsTrue exact → IsTrue set.exact) where
  -- the rule that was asked for
  by_exact : (asked : Bool) → (IsTrue asked → IsTrue set.exact) → SetsBoundsBy asked cap length (Ok (with_span cap set.granted))
  by_exact false wanted = inl (unsealed, inl (inside, (set.granted, granted, refl)))
  by_exact true wanted =
      let sound = is_exact.0 (wanted refl) in
      let same = granted_same (request_of cap length) set.granted (request_of cap length) granted sound in
      inl (unsealed, inl (inside, inl (sound, ap (λ (span : Span). Ok (with_span cap span)) same)))

  -- the encoding of a request within the bounds
  encoded : IsBounded cap length exact (with_span cap set.granted)
  encoded =
      let request : Span = request_of cap length in
      let is_request : IsSpan request =
      record { in_order = omega arith; base_fits = is_cap.address_fits; top_fits = omega (arith, inside.to_top, is_cap.is_span.top_fits) } in
      let sound = granted-sound request set.granted is_request granted in
      let covers = (granted-tight request set.granted is_request granted).covers in
      record {
        rule = by_exact exact wanted;
        grants = record {
          bytes = IsGranted-within request set.granted cap.span is_request is_cap.is_span is_cap.sound inside granted;
          permissions = and_self cap.permissions;
        };
        is_capability = record {
          is_span = sound.is_span;
          sound = sound.sound;
          address_fits = is_cap.address_fits;
          representable =
              inside-Represents set.granted cap.address sound.is_span sound.sound covers.from_base (omega (arith, covers.to_top));
          permissions_fit = is_cap.permissions_fit;
          is_type = is_cap.is_type;
        };
      }

-- the same of a capability in a `Cap`, whose room is the bytes from its address to its top
pub bounded : (cap now : Capability) (span : Span) (from room length : ℕ) (exact : Bool) (set made : Encoding) → cap ≡ now
    → span ≡ now.span → IsCapability cap → IsUnsealed now → span.base ≤ cap.address → from ≡ cap.address
    → (from ≤ span.top) × (room ≡ span.top - from) → length ≤ room
    → IsGranted (request_of cap length) set.granted → (IsTrue set.exact ↔ IsSound (request_of cap length))
    → made ≡ record { granted = set.granted; exact = true } → (IsTrue exact → IsTrue set.exact)
    → IsBounded now length exact (record cap { span = made.granted })
bounded cap now span from room length exact set made is_now is_span is_cap unsealed base is_from is_room fits granted is_exact is_made wanted =
    let own : span ≡ cap.span = is_span ∙ ap (λ (c : Capability). c.span) (sym is_now) in
    let to_base : cap.span.base ≤ cap.address = omega (arith, ap (λ (s : Span). s.base) own, base) in
    let to_top : cap.address + length ≤ cap.span.top =
    omega (arith, ap (λ (s : Span). s.top) own, is_from, is_room.0, is_room.1, fits) in
    let is = encoded cap length exact set is_cap (subst IsUnsealed (sym is_now) unsealed)
    (record { from_base = to_base; to_top = to_top }) granted is_exact wanted in
    let kept = ap (λ (e : Encoding). e.granted) is_made in
    subst (λ (c : Capability). IsBounded c length exact (record cap { span = made.granted })) is_now
    (subst (IsBounded cap length exact) (λ i. record cap { span = sym kept i }) is)

-- ---- a span within the bounds of a capability

-- the capability with the address at the start of a sound span, and the bounds of the span, can exist
pub carved-IsCapability : (cap : Capability) (span : Span) → IsCapability cap → IsSpan span → IsSound span
    → IsCapability (with_span (at_address cap span.base) span)
carved-IsCapability cap span is_cap is_span sound = record {
  is_span = is_span;
  sound = sound;
  address_fits = is_span.base_fits;
  representable = inside-Represents span span.base is_span sound (omega arith) is_span.in_order;
  permissions_fit = is_cap.permissions_fit;
  is_type = is_cap.is_type;
}

-- bounds of the length of a span from its base on are the span
span_from-length : (span : Span) → IsSpan span → span_from span.base (length_of span) ≡ span
span_from-length span is_span =
    let top : span.base + length_of span ≡ span.top = omega (arith, is_span.in_order) in
    λ i. record { base = span.base; top = top i }

-- it is the result of setting the address, and then exact bounds
pub carved-is_derived : (cap : Capability) (span : Span) → IsCapability cap → IsUnsealed cap → IsWithin span cap.span
    → IsSpan span → IsSound span
    → SetsAddress cap span.base (Ok (at_address cap span.base))
    × SetsExactBounds (at_address cap span.base) (length_of span) (Ok (with_span (at_address cap span.base) span))
carved-is_derived cap span is_cap unsealed within is_span sound =
    let request = span_from-length span is_span in (
      inl (
        unsealed,
        inl (
          inside-Represents cap.span span.base is_cap.is_span is_cap.sound within.from_base
              (omega (arith, is_span.in_order, within.to_top)),
          refl,
        ),
      ),
      inl (
        unsealed,
        inl (
          subst (λ (request : Span). IsWithin request cap.span) (sym request) within,
          inl (
            subst IsSound (sym request) sound,
            ap (λ (made : Capability). Ok made) (λ i. with_span (at_address cap span.base) (sym request i)),
          ),
        ),
      ),
    )

-- the capability with the granted span of the encoding of a span
pub carved-made : (cap : Capability) (span : Span) (set : Encoding) → set ≡ record { granted = span; exact = true }
    → with_span (at_address cap span.base) span ≡ record cap { span = set.granted; address = span.base }
carved-made cap span set is =
    let granted : set.granted ≡ span = ap (λ (set : Encoding). set.granted) is in
    λ i. record cap { span = sym granted i; address = span.base }

-- ---- the whole address space

-- its span is sound
pub whole-IsSound : IsSound (from_zero (2 ^ 64))
whole-IsSound =
    let whole : Span = from_zero (2 ^ 64) in
    let is_whole : IsSpan whole = record { in_order = omega arith; base_fits = omega arith; top_fits = omega arith } in
    let granted : Span = granted_span whole in
    let is_granted = granted_span-is whole is_whole in
    let covers = (granted-tight whole granted is_whole is_granted).covers in
    let fits = (granted-sound whole granted is_whole is_granted).is_span in
    let same : granted ≡ whole =
    same_span granted whole (omega (arith, covers.from_base)) (omega (arith, covers.to_top, fits.top_fits)) in
    subst (IsGranted whole) same is_granted

-- the root is a capability that can exist
pub root-IsCapability : IsCapability root_capability
root-IsCapability =
    let whole : Span = from_zero (2 ^ 64) in
    let is_whole : IsSpan whole = record { in_order = omega arith; base_fits = omega arith; top_fits = omega arith } in
    record {
      is_span = is_whole;
      sound = whole-IsSound;
      address_fits = omega arith;
      representable = inside-Represents whole 0 is_whole whole-IsSound (omega arith) (omega arith);
      permissions_fit = omega arith;
      is_type = inr refl;
    }
