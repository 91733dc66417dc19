-- Larger requests are granted more.
use Rattle.std.proofs.Common.{◌≡◌, ℕ, ◌≤◌, ◌%◌, ◌^◌, arith}
use Rattle.cc_bounds.specs.declared.span.Span.{Span}
use Rattle.cc_bounds.specs.Span.{IsSpan, IsWithin, from_zero}
use Rattle.cc_bounds.specs.Granule.{IsGranted, IsSound, granule_of, padded_size}
use Rattle.cc_bounds.proofs.ComputingLemmas.{from_zero-span, padded-sound}
use Rattle.cc_bounds.proofs.LawLemmas.{decoded_law, padded_law}
use Rattle.cc_bounds.proofs.SoundLemmas.{granted-sound}
use Rattle.cc_bounds.proofs.TightestLemmas.{granted-tight, granted-tightest}
use Rattle.cc_laws.proofs.PaddedLemmas.{sound-padded_size}

pub granted-within : (inner outer one other : Span) → IsSpan inner → IsSpan outer → IsWithin inner outer → IsGranted inner one
    → IsGranted outer other → IsWithin one other
granted-within inner outer one other is_inner is_outer within granted more =
    let grant = granted-sound outer other is_outer more in
    let word = (decoded_law other grant.is_span).0 grant.sound in
    let covers = (granted-tight outer other is_outer more).covers in
    granted-tightest inner one is_inner granted word.0 other word.1
    (record { from_base = omega (arith, within.from_base, covers.from_base); to_top = omega (arith, within.to_top, covers.to_top) })

-- a span of a padded size, from 0 on, is sound
record IsPaddedSpan (size : ℕ) : Type 0 where
  is_span : IsSpan (from_zero (padded_size size))
  sound : IsSound (from_zero (padded_size size))

padded-span : (size : ℕ) → size ≤ 2 ^ 64 → IsPaddedSpan size
padded-span size fits =
    let is_span = from_zero-span (padded_size size) (padded_law size fits).fits in
    record { is_span = is_span; sound = padded-sound 0 size fits (zero-mod (granule_of (from_zero size))) is_span }
  where
    zero-mod : (n : ℕ) → 0 % n ≡ 0
    zero-mod n = omega arith

pub padded-grows : (size larger : ℕ) → size ≤ larger → larger ≤ 2 ^ 64 → padded_size size ≤ padded_size larger
padded-grows size larger le fits =
    let span = padded-span larger fits in
    let covers = (padded_law larger fits).enough in
    let least = (sound-padded_size (from_zero (padded_size larger)) size span.is_span span.sound (omega (arith, le, covers))).enough in
    omega (arith, least)

pub padded-twice : (size : ℕ) → size ≤ 2 ^ 64 → padded_size (padded_size size) ≡ padded_size size
padded-twice size fits =
    let span = padded-span size fits in
    let law = padded_law size fits in
    let least = (sound-padded_size (from_zero (padded_size size)) (padded_size size) span.is_span span.sound (omega arith)).enough in
    let covers = (padded_law (padded_size size) law.fits).enough in
    omega (arith, least, covers)
