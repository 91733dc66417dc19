-- Each relation of decoding has exactly one number, for all fields.
use Rattle.std.proofs.Common.{◌≡◌, ℕ, ◌+◌, ◌-◌, ◌*◌, ◌<◌, ◌≤◌, ◌/◌, ◌%◌, ◌^◌, Bool, true, false, refl, arith, inl, inr}
use Rattle.std.proofs.lemmas.Bool.{cases_lt}
use Rattle.cc_word.specs.Word.{bit_of}
use Rattle.cc_word.specs.declared.fields.Fields.{Fields}
use Rattle.cc_bounds.specs.declared.span.Span.{Span}
use Rattle.cc_bounds.specs.Window.{section_of}
use Rattle.cc_bounds.specs.Decoding.{stored_exponent, without_exponent, base_mantissa, IsTopMantissa, raised, first_section, IsWindow, IsPlaced, IsTopBeside, DecodesTo, ExactlyOne}
use Rattle.cc_bounds.proofs.PlaceLemmas.{start_section, address_section-ge, placed}
use Rattle.cc_bounds.proofs.DecodingLemmas.{without_exponent-le, IsTopMantissa-same, IsWindow-same, IsPlaced-same, IsTopBeside-same, DecodesTo-same}
use Rattle.cc_bounds.proofs.StandingLemmas.{base_mantissa-fits}

-- over plain numbers: from B so far up as the T field asks, and a quarter more for IE
top_mantissa-is : (base stored bit : ℕ) → base < 2 ^ 14 → stored < 2 ^ 12 → bit < 2
    → let top = (base + (stored + 2 ^ 14 - base) % 2 ^ 12 + bit * 2 ^ 12) % 2 ^ 14 in
    (top % 2 ^ 12 ≡ stored) × ((top + 2 ^ 14 - base) % 2 ^ 14 / 2 ^ 12 ≡ bit)
top_mantissa-is base stored bit base_fits stored_fits bit_fits = (omega arith, omega arith)

-- a bit is below 2
bit_of-fits : (bit : Bool) → bit_of bit < 2
bit_of-fits true = omega arith
bit_of-fits false = omega arith

-- fields have exactly one top mantissa
pub one-top_mantissa : (fields : Fields) → ExactlyOne (IsTopMantissa fields)
one-top_mantissa fields =
    let base : ℕ = base_mantissa fields in
    let stored : ℕ = without_exponent fields.ie fields.t in
    let less = without_exponent-le fields.ie fields.t in
    let fits = fields.t_fits in
    let top : ℕ = (base + (stored + 2 ^ 14 - base) % 2 ^ 12 + bit_of fields.ie * 2 ^ 12) % 2 ^ 14 in
    let facts = top_mantissa-is base stored (bit_of fields.ie) (base_mantissa-fits fields) (omega (arith, less, fits)) (bit_of-fits fields.ie) in
    let has : IsTopMantissa fields top = record { fits = omega arith; stored = facts.0; implied = facts.1 } in
    record { value = top; has = has; only = λ other is_other. IsTopMantissa-same fields other top is_other has }

-- over plain numbers: the upper bits of an address in sections, corrected
upper-is : (address first high : ℕ) → 8 ≤ address → first < 8 → high < 8
    → let start = start_section address first in let upper = (start + (high + 8 - first) % 8) / 8 in
    (start ≤ 8 * upper + high) × (8 * upper + high < start + 8)
upper-is address first high raised first_fits high_fits = (omega arith, omega arith)

-- a mantissa has exactly one place
pub one-place : (fields : Fields) (mantissa : ℕ) → mantissa < 2 ^ 14 → ExactlyOne (IsPlaced fields mantissa)
one-place fields mantissa fits =
    let address : ℕ = raised fields.address / section_of (stored_exponent fields) in
    let start : ℕ = start_section address (first_section fields) in
    let upper : ℕ = (start + (mantissa / 2 ^ 11 + 8 - first_section fields) % 8) / 8 in
    let facts = upper-is address (first_section fields) (mantissa / 2 ^ 11) (address_section-ge fields) (omega arith) (omega arith) in
    let has = placed fields mantissa upper fits facts.0 facts.1 in
    record { value = _; has = has; only = λ other is_other. IsPlaced-same fields mantissa other _ is_other has }

-- fields have exactly one window
pub one-window : (fields : Fields) → ExactlyOne (IsWindow fields)
one-window fields =
    let place = one-place fields (base_mantissa fields) (base_mantissa-fits fields) in
    let has = place.has.is_window in
    record { value = _; has = has; only = λ other is_other. IsWindow-same fields other _ is_other has }

-- the top that keeps 64 bits, or the one with bit 64 as well
SomeTop : (exponent base place : ℕ) → Type 0
SomeTop exponent base place = (top : ℕ) × IsTopBeside exponent base place top

-- there is a top for a base and a place
some-top : (exponent base place : ℕ) → base < 2 ^ 64 → SomeTop exponent base place
unfolding SomeTop
some-top exponent base place fits =
    elim (cases_lt exponent 51) [
      | inl small ↦
          elim (cases_lt ((place % 2 ^ 64 / 2 ^ 63 + 4 - base / 2 ^ 63) % 4) 2) [
            | inl near ↦ (place % 2 ^ 64, record { fits = omega arith; large = λ large. absurd (omega arith); small = λ _. omega arith; near = λ _. omega arith })
            | inr far ↦ (place % 2 ^ 64 + 2 ^ 64, record { fits = omega arith; large = λ large. absurd (omega arith); small = λ _. omega arith; near = λ _. omega arith })
          ]
      | inr large ↦ (place % 2 ^ 65, record { fits = omega arith; large = λ _. refl; small = λ small. absurd (omega arith); near = λ small. absurd (omega arith) })
    ]

-- there is exactly one top for a base and a place
pub one-top : (exponent base place : ℕ) → base < 2 ^ 64 → ExactlyOne (IsTopBeside exponent base place)
unfolding SomeTop
one-top exponent base place fits =
    let some = some-top exponent base place fits in
    record { value = some.0; has = some.1; only = λ other is_other. IsTopBeside-same exponent base place other some.0 fits is_other some.1 }

-- fields decode to exactly one span
pub one-span : (fields : Fields) → ExactlyOne (DecodesTo fields)
one-span fields =
    let base_place = one-place fields (base_mantissa fields) (base_mantissa-fits fields) in
    let mantissa = one-top_mantissa fields in
    let top_place = one-place fields mantissa.value mantissa.has.fits in
    let base : ℕ = base_place.value % 2 ^ 64 in
    let top = one-top (stored_exponent fields) base top_place.value (omega arith) in
    let span : Span = record { base = base; top = top.value } in
    let has : DecodesTo fields span = record {
      is_base = record { place = base_place.value; is_place = base_place.has; kept = refl };
      is_top = record { mantissa = mantissa.value; place = top_place.value; is_mantissa = mantissa.has; is_place = top_place.has; is_top = top.has };
    } in
    record { value = span; has = has; only = λ other is_other. DecodesTo-same fields other span is_other has }
