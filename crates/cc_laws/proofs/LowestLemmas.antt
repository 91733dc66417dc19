-- With alignment 1, each sound span of at least `size` bytes that lies in the pool and shares no byte
-- with a held span begins at a place for an object of `size` bytes.
use Rattle.std.proofs.Common.{ℕ, ◌≡◌, ◌+◌, ◌≤◌, ◌∙◌, List, arith, subst, sym}
use Rattle.cc_bounds.specs.declared.span.Span.{Span}
use Rattle.cc_bounds.specs.Span.{IsSpan, IsWithin, from_zero, length_of}
use Rattle.cc_bounds.specs.Granule.{IsSound, granule_of, padded_size}
use Rattle.cc_laws.proofs.PaddedLemmas.{sound-padded_size}
use Rattle.cc_bounds.specs.declared.align.Align.TheVariants.{One}
use Rattle.cc_placer.specs.Placement.{HasNoPlace, IsApartFrom, IsPlace, IsPlacement}
use Rattle.cc_placer.specs.Align.{IsUnit, rounded_up}
use Rattle.cc_placer.proofs.AlignLemmas.{unit-one}
use Rattle.cc_placer.proofs.UnitLemmas.{IsUnit-one}

sound-place : (pool span : Span) (held : List Span) (size unit : ℕ) → IsUnit One size unit → IsSpan span → IsSound span
    → size ≤ length_of span → IsWithin span pool → IsApartFrom held span
    → IsPlace pool held (rounded_up size unit) unit span.base
sound-place pool span held size unit is is_span sound le within apart =
    let has = sound-padded_size span size is_span sound le in
    let enough : padded_size size ≤ length_of span = has.enough in
    let ends : span.base + padded_size size ≤ span.top = omega (arith, enough, is_span.in_order) in
    let same : unit ≡ granule_of (from_zero size) = IsUnit-one One size unit (omega (arith, le, is_span.top_fits)) is ∙ unit-one size in
    subst (λ (u : ℕ). IsPlace pool held (rounded_up size u) u span.base) (sym same) (record {
      aligned = has.aligned;
      in_pool = record { from_base = within.from_base; to_top = omega (arith, ends, within.to_top) };
      apart = λ other contains shares. apart other contains (record {
        byte = shares.byte;
        in_one = record { from_base = shares.in_one.from_base; below_top = omega (arith, ends, shares.in_one.below_top) };
        in_other = shares.in_other;
      });
    })

-- so the placement is not above it
pub placement-lowest : (pool span : Span) (held : List Span) (size unit start : ℕ) → IsUnit One size unit
    → IsPlacement pool held (rounded_up size unit) unit start → IsSpan span → IsSound span
    → size ≤ length_of span → IsWithin span pool → IsApartFrom held span → start ≤ span.base
placement-lowest pool span held size unit start is placement is_span sound le within apart =
    placement.least span.base (sound-place pool span held size unit is is_span sound le within apart)

-- and if there is no place, there is no such span
pub no_place-no_span : (pool span : Span) (held : List Span) (size unit : ℕ) → IsUnit One size unit
    → HasNoPlace pool held (rounded_up size unit) unit → IsSpan span → IsSound span
    → size ≤ length_of span → IsWithin span pool → ¬ IsApartFrom held span
no_place-no_span pool span held size unit is none is_span sound le within apart =
    none span.base (sound-place pool span held size unit is is_span sound le within apart)
