-- A span with addresses at the end of its margin, and one section further.
use Rattle.std.proofs.Common.{◌≡◌, ℕ, ◌*◌, ◌<◌, ◌^◌, ◌≤◌, arith, refl, subst, sym}
use Rattle.cc_bounds.specs.declared.span.Span.{Span}
use Rattle.cc_bounds.specs.Span.{IsSpan, span_from}
use Rattle.cc_bounds.specs.Granule.{IsExponent, IsGranted, IsSound, exponent_of, first_exponent, granule_of, granted_span}
use Rattle.cc_bounds.specs.Decoding.{ExactlyOne}
use Rattle.cc_bounds.specs.Window.{IsRepresentable, Represents, section_of}
use Rattle.cc_bounds.proofs.ComputingLemmas.{exponent_of-is, granted_span-is}
use Rattle.cc_bounds.proofs.SoundDecodingLemmas.{represents-computed}
use Rattle.cc_bounds.proofs.WindowLemmas.{above_start, representable-near}
use Rattle.cc_laws.specs.Margin.{IsNear}

abbrev wide : Span
wide = span_from 2040 8184

abbrev thin : Span
thin = span_from 4096 4

pub wide-is_span : IsSpan wide
wide-is_span = record { in_order = omega arith; base_fits = omega arith; top_fits = omega arith }

thin-is_span : IsSpan thin
thin-is_span = record { in_order = omega arith; base_fits = omega arith; top_fits = omega arith }

wide-granted : wide ≡ granted_span wide
unfolding granule_of exponent_of first_exponent
wide-granted = refl

wide-exponent : exponent_of wide ≡ 0
unfolding exponent_of first_exponent
wide-exponent = refl

thin-exponent : exponent_of thin ≡ 0
unfolding exponent_of first_exponent
thin-exponent = refl

pub wide-sound : IsSound wide
wide-sound = subst (λ (s : Span). IsGranted wide s) (sym wide-granted) (granted_span-is wide wide-is_span)

pub wide-IsExponent : IsExponent wide 0
wide-IsExponent = subst (λ (e : ℕ). IsExponent wide e) wide-exponent (exponent_of-is wide wide-is_span)

pub wide-near : IsNear wide 0 14335
wide-near = record { laps = 1; from_below = omega arith; to_above = omega arith }

-- an address is not near, in whichever lap it is
pub wide-not_near : ¬ IsNear wide 0 14336
wide-not_near near = let from = near.from_below in let to = near.to_above in omega (arith, from, to)

pub thin-not_near : ¬ IsNear thin 0 2047
thin-not_near near = let from = near.from_below in let to = near.to_above in omega (arith, from, to)

-- an address at least eight sections above the window's start is not in it
far : (span : Span) (address : ℕ) → IsSpan span → address < 2 ^ 64 → exponent_of span ≡ 0
    → 8 * section_of 0 ≤ above_start span.base 0 address → ¬ Represents span address
far span address is_span fits zero beyond represents =
    let at : IsRepresentable span.base 0 address =
    subst (λ (e : ℕ). IsRepresentable span.base e address) zero ((represents-computed span address is_span).1 represents) in
    let near = representable-near span.base 0 address (omega arith) is_span.base_fits fits at in
    omega (arith, near, beyond)

pub wide-far : ¬ Represents wide 14336
wide-far = far wide 14336 wide-is_span (omega arith) wide-exponent (omega arith)

pub thin-far : ¬ Represents thin 2047
thin-far = far thin 2047 thin-is_span (omega arith) thin-exponent (omega arith)

-- ---- those of each function

pub ruleset span_has_margin = (wide-is_span, wide-sound, wide-IsExponent, wide-near)

pub ruleset margin_ends = (wide-not_near, wide-far, thin-not_near, thin-far)

pub none-breaks : ¬ ExactlyOne (λ (number : ℕ). number < 0)
none-breaks is = let has = is.has in absurd (omega (arith, has))

pub two-breaks : ¬ ExactlyOne (λ (number : ℕ). number < 2)
two-breaks is =
    let first = is.only 0 (omega arith) in
    let second = is.only 1 (omega arith) in
    absurd (omega (arith, first, second))
