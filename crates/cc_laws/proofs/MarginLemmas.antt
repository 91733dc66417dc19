-- The margin around bounds.
use Rattle.std.proofs.Common.{◌≡◌, ℕ, ◌+◌, ◌-◌, ◌*◌, ◌<◌, ◌≤◌, ◌/◌, ◌^◌, max, ◌∙◌, ap, arith, inl, inr, sym}
use Rattle.std.proofs.Math.Nat.{add-mul-div_right, div-lt_iff_lt-mul, div-mul-le_self, le-div_iff_mul-le, lt-div-mul-add, mul-le-mul_right}
use Rattle.std.proofs.Math.Pow.{pow-add, pow_mono}
use Rattle.std.proofs.lemmas.Nat.{pow_pos}
use Rattle.std.proofs.lemmas.Bool.{cases_lt}
use Rattle.cc_bounds.specs.declared.span.Span.{Span}
use Rattle.cc_bounds.specs.Span.{IsSpan, length_of}
use Rattle.cc_bounds.specs.Granule.{IsExponent, IsSound, exponent_of}
use Rattle.cc_bounds.specs.Window.{Represents, section_of}
use Rattle.cc_bounds.proofs.ComputingLemmas.{exponent_of-is}
use Rattle.cc_bounds.proofs.GranuleLemmas.{exponent-least, least_same}
use Rattle.cc_bounds.proofs.SoundLemmas.{granted-long}
use Rattle.cc_laws.specs.Margin.{IsNear, section_number}

-- ---- the margin

-- a sound span has an exponent of at most 52, and less than four sections
record IsShort (span : Span) (exponent : ℕ) : Type 0 where
  fits : exponent ≤ 52
  close : span.top < span.base + 4 * section_of exponent

granules-section : (e : ℕ) → 4 * section_of e ≡ 1024 * 2 ^ (e + 3)
granules-section e =
    let a = pow-add 2 e 11 in
    let b = pow-add 2 e 3 in
    omega (arith, a, b)

is-short : (span : Span) (exponent : ℕ) → IsSpan span → IsSound span → IsExponent span exponent → IsShort span exponent
is-short span exponent is_span sound is = elim (cases_lt (length_of span) 4096) [
  | inl short ↦
      let zero : exponent ≡ 0 = is.small short in
      let section : section_of exponent ≡ 2048 = ap section_of zero in
      record { fits = omega (arith, zero); close = omega (arith, section, short, is_span.in_order) }
  | inr long ↦
      let whole = granted-long span span is_span long sound in
      let same : exponent ≡ whole.exponent = least_same span exponent whole.exponent (exponent-least span exponent long is) whole.least in
      let fits = whole.exponent_fits in
      let few = whole.few in
      let base = whole.base_is in
      let top = whole.top_is in
      let pos : 0 < 2 ^ (whole.exponent + 3) = pow_pos (whole.exponent + 3) in
      let sections = granules-section whole.exponent in
      let section : section_of exponent ≡ section_of whole.exponent = ap section_of same in
      let g : ℕ = 2 ^ (whole.exponent + 3) in
      let scaled : whole.last * g ≤ (whole.first + 1023) * g = mul-le-mul_right g few in
      record { fits = omega (arith, same, fits); close = omega (arith, section, sections, base, top, pos, scaled) }
]

-- an address near a span is in the window, for any size of a section that divides 2 ^ 64
in_window : (section count base top place : ℕ) → 0 < section → count * section ≡ 2 ^ 64 → top < base + 4 * section
    → (2 ^ 64 + base) / section ≤ place / section + 1 → place / section ≤ (2 ^ 64 + top) / section + 2
    → (2 ^ 64 + base / section * section - section ≤ place)
    × (place < 2 ^ 64 + base / section * section - section + 8 * section)
in_window section count base top place pos whole close below above =
    let b : ℕ = base / section in
    let t : ℕ = top / section in
    let p : ℕ = place / section in
    let base_up : (2 ^ 64 + base) / section ≡ b + count =
    ap (λ (n : ℕ). n / section) (omega (arith, whole)) ∙ add-mul-div_right base count pos in
    let top_up : (2 ^ 64 + top) / section ≡ t + count =
    ap (λ (n : ℕ). n / section) (omega (arith, whole)) ∙ add-mul-div_right top count pos in
    let base_below : base < b * section + section = lt-div-mul-add {a = base} pos in
    let place_below : place < p * section + section = lt-div-mul-add {a = place} pos in
    let place_from : p * section ≤ place = div-mul-le_self place section in
    let top_near : t < b + 5 = (div-lt_iff_lt-mul {k = section} {x = top} {y = b + 5} pos).1 (omega (arith, close, base_below)) in
    let from : b + count ≤ p + 1 = omega (arith, base_up, below) in
    let to : p ≤ b + count + 6 = omega (arith, top_up, top_near, above) in
    let from' : (b + count) * section ≤ (p + 1) * section = mul-le-mul_right section from in
    let to' : p * section ≤ (b + count + 6) * section = mul-le-mul_right section to in
    (omega (arith, from', place_from, whole), omega (arith, to', place_below, whole))

sections-whole : (e : ℕ) → e ≤ 52 → 2 ^ (53 - e) * section_of e ≡ 2 ^ 64
sections-whole e fits =
    let s : 53 - e + (e + 11) ≡ 64 = omega arith in
    sym (pow-add 2 (53 - e) (e + 11)) ∙ ap (λ (n : ℕ). 2 ^ n) s

pub near-represents : (span : Span) (exponent address : ℕ) → IsSpan span → IsSound span → IsExponent span exponent
    → IsNear span exponent address → Represents span address
unfolding Represents
near-represents span exponent address is_span sound is near =
    let short = is-short span exponent is_span sound is in
    let within = in_window (section_of exponent) (2 ^ (53 - exponent)) span.base span.top (address + near.laps * 2 ^ 64)
    (pow_pos (exponent + 11)) (sections-whole exponent short.fits) short.close near.from_below near.to_above in
    (exponent, is, record { laps = near.laps; from_start = within.0; below_end = within.1 })

-- a number of sections up is that many numbers of sections more
section_up : (section amount address : ℕ) → 0 < section → (address + amount * section) / section ≡ address / section + amount
section_up section amount address pos = add-mul-div_right address amount pos

div-grows : (section one other : ℕ) → 0 < section → one ≤ other → one / section ≤ other / section
div-grows section one other pos le =
    let down = div-mul-le_self one section in
    (le-div_iff_mul-le {k = section} {x = one / section} {y = other} pos).1 (omega (arith, down, le))

pub quarter-represents : (span : Span) (address : ℕ) → IsSpan span → IsSound span
    → span.base ≤ address + max 2048 (length_of span / 4) → address ≤ span.top + max 4096 (length_of span / 2) → Represents span address
quarter-represents span address is_span sound from to =
    let e : ℕ = exponent_of span in
    let is = exponent_of-is span is_span in
    let short = is-short span e is_span sound is in
    let section : ℕ = section_of e in
    let pos : 0 < section = pow_pos (e + 11) in
    let l : 11 ≤ e + 11 = omega arith in
    let large = pow_mono l in
    let close = short.close in
    let below : 2 ^ 64 + span.base ≤ 2 ^ 64 + address + 1 * section = omega (arith, from, large, close) in
    let above : 2 ^ 64 + address ≤ 2 ^ 64 + span.top + 2 * section = omega (arith, to, large, close) in
    let one = section_up section 1 (2 ^ 64 + address) pos in
    let two = section_up section 2 (2 ^ 64 + span.top) pos in
    let from' = div-grows section (2 ^ 64 + span.base) (2 ^ 64 + address + 1 * section) pos below in
    let to' = div-grows section (2 ^ 64 + address) (2 ^ 64 + span.top + 2 * section) pos above in
    let place : address + 1 * 2 ^ 64 ≡ 2 ^ 64 + address = omega arith in
    let number : section_number e (address + 1 * 2 ^ 64) ≡ section_number e (2 ^ 64 + address) = ap (section_number e) place in
    near-represents span e address is_span sound is (record {
      laps = 1;
      from_below = omega (arith, from', one, number);
      to_above = omega (arith, to', two, number);
    })
