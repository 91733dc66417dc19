-- The place of a mantissa, from the upper bits of the address and a correction.
use Rattle.std.proofs.Common.{◌≡◌, ℕ, ◌+◌, ◌-◌, ◌*◌, ◌<◌, ◌≤◌, ◌/◌, ◌%◌, ◌^◌, inl, inr, ◌∙◌, ap, sym, arith, nat_lt}
use Rattle.std.proofs.Math.Nat.{div-add-mod', div-div-eq-div-mul, mod-lt, mul_comm}
use Rattle.std.proofs.lemmas.Bool.{cases_lt}
use Rattle.std.proofs.lemmas.Nat.{pow-add}
use Rattle.cc_word.specs.Word.{bit_of}
use Rattle.cc_word.specs.declared.fields.Fields.{Fields}
use Rattle.cc_bounds.specs.Window.{section_of}
use Rattle.cc_bounds.specs.Decoding.{stored_exponent, IsPlaced, first_section}
use Rattle.cc_bounds.proofs.PlaceLemmas.{section_is, stored_exponent-le, units_le, units_lt}
use Rattle.cc_explain.specs.Steps.{IsCorrected}
use Rattle.cc_explain.specs.declared.steps.Steps.{Steps}

-- the number of a high section is in the next block of eight sections
bumped : (block upper first number : ℕ) → number < 8 → first < 8 → 8 * block + first ≤ 8 * upper + number
    → 8 * upper + number < 8 * block + first + 8 → upper ≡ block + bit_of (nat_lt number first)
bumped block upper first number number_fits first_fits from below = grind (arith, number_fits, first_fits, from, below)

-- bytes in a window of eight sections: which block of eight they are in
block_is : (section block upper first number rest : ℕ) → number < 8 → first < 8 → rest < section
    → block * (8 * section) + first * section ≤ upper * (8 * section) + number * section + rest
    → upper * (8 * section) + number * section + rest < block * (8 * section) + first * section + 8 * section
    → upper ≡ block + bit_of (nat_lt number first)
block_is section block upper first number rest number_fits first_fits rest_fits from below =
    let at_least : 8 * block + first ≤ 8 * upper + number =
    elim (cases_lt (8 * upper + number) (8 * block + first)) [
      | inl less ↦ let end = units_lt (8 * upper + number) (8 * block + first) section rest less rest_fits in omega (arith, end, from)
      | inr more ↦ more
    ] in
    let under : 8 * upper + number < 8 * block + first + 8 =
    elim (cases_lt (8 * upper + number) (8 * block + first + 8)) [
      | inl less ↦ less
      | inr more ↦ let end = units_le (8 * block + first + 8) (8 * upper + number) section rest more in omega (arith, end, below)
    ] in
    bumped block upper first number number_fits first_fits at_least under

-- a raised number in blocks of eight sections, sections and bytes
raised_split : (number section blocks raise : ℕ) → raise ≡ blocks * (8 * section)
    → number + raise ≡ (number / (8 * section) + blocks) * (8 * section) + number / section % 8 * section + number % section
raised_split number section blocks raise whole =
    let bytes = div-add-mod' number section in
    let sections = ap (λ (n : ℕ). n * section) (div-add-mod' (number / section) 8) in
    let upper : number / (8 * section) ≡ number / section / 8 = ap (λ (n : ℕ). number / n) (mul_comm 8 section) ∙ sym (div-div-eq-div-mul number section 8) in
    rw upper (omega (arith, bytes, sections, whole))

-- a place in a block, and the same bytes from the upper bits of the address
joined : (section place of_place scaled block of_address of_mantissa upper blocks raise : ℕ)
    → of_place * (8 * section) + scaled ≡ place → of_place ≡ block + of_mantissa → upper + blocks ≡ block + of_address → raise ≡ blocks * (8 * section)
    → place + of_address * (8 * section) ≡ (upper + of_mantissa) * (8 * section) + scaled + raise
joined section place of_place scaled block of_address of_mantissa upper blocks raise split is_place is_address whole =
    let place_bytes = ap (λ (n : ℕ). n * (8 * section)) is_place in
    let address_bytes = ap (λ (n : ℕ). n * (8 * section)) is_address in
    omega (arith, split, place_bytes, address_bytes, whole)

module _ (fields : Fields) where
  -- 2 ^ 66 is a number of windows
  raise_is : 2 ^ 66 ≡ 2 ^ (52 - stored_exponent fields) * (8 * section_of (stored_exponent fields))
  raise_is =
      let small = stored_exponent-le fields in
      let facts = section_is fields in
      let blocks : ℕ = 2 ^ (52 - stored_exponent fields) in
      let sum : 66 ≡ stored_exponent fields + 14 + (52 - stored_exponent fields) = omega (arith, small) in
      let power = pow-add 2 (stored_exponent fields + 14) (52 - stored_exponent fields) in
      ap (λ (n : ℕ). 2 ^ n) sum ∙ power ∙ ap (λ (n : ℕ). n * blocks) facts.eight ∙ mul_comm (8 * section_of (stored_exponent fields)) blocks

  -- the place of a mantissa is that of the corrected upper bits, the mantissa and E zeros
  pub corrected : (steps : Steps) → steps.exponent ≡ stored_exponent fields → steps.first_section ≡ first_section fields
      → (mantissa place : ℕ) → mantissa < 2 ^ 14 → IsPlaced fields mantissa place → IsCorrected fields steps mantissa place
  corrected steps is_exponent is_first mantissa place fits is_place = rw (is_exponent, is_first) (
      let section : ℕ = section_of (stored_exponent fields) in
      let unit : ℕ = 2 ^ stored_exponent fields in
      let first : ℕ = first_section fields in
      let blocks : ℕ = 2 ^ (52 - stored_exponent fields) in
      let block : ℕ = is_place.start / (8 * section) in
      let facts = section_is fields in
      let first_fits : first < 8 = omega arith in
      let begins = is_place.is_window.begins in
      let start_is = div-add-mod' is_place.start (8 * section) in
      let start_split : is_place.start ≡ block * (8 * section) + first * section = rw begins at (sym start_is) in
      let address_split = raised_split fields.address section blocks (2 ^ 66) raise_is in
      let address_from = is_place.is_window.holds_address.from_start in
      let address_below = is_place.is_window.holds_address.below_end in
      let address_block = block_is section block (fields.address / (8 * section) + blocks) first (fields.address / section % 8) (fields.address % section)
      (omega arith) first_fits (mod-lt fields.address facts.positive)
      (rw (start_split, address_split) at address_from) (rw (start_split, address_split) at address_below) in
      let place_is = div-add-mod' place (8 * section) in
      let place_split : place / (8 * section) * (8 * section) + mantissa * unit ≡ place = rw is_place.scaled at place_is in
      let mantissa_scaled = ap (λ (n : ℕ). n * unit) (div-add-mod' mantissa (2 ^ 11)) in
      let unit_scaled = ap (λ (n : ℕ). mantissa / 2 ^ 11 * n) facts.unit in
      let mantissa_is : mantissa * unit ≡ mantissa / 2 ^ 11 * section + mantissa % 2 ^ 11 * unit = omega (arith, mantissa_scaled, unit_scaled) in
      let low = units_lt (mantissa % 2 ^ 11) 2048 unit 0 (omega arith) (omega (arith, facts.positive, facts.unit)) in
      let low_fits : mantissa % 2 ^ 11 * unit < section = omega (arith, low, facts.unit) in
      let place_whole : place ≡ place / (8 * section) * (8 * section) + mantissa / 2 ^ 11 * section + mantissa % 2 ^ 11 * unit = omega (arith, place_split, mantissa_is) in
      let from = is_place.in_window.from_start in
      let below = is_place.in_window.below_end in
      let place_block = block_is section block (place / (8 * section)) first (mantissa / 2 ^ 11) (mantissa % 2 ^ 11 * unit)
      (omega (arith, fits)) first_fits low_fits (omega (arith, from, start_split, place_whole)) (omega (arith, below, start_split, place_whole)) in
      joined section place (place / (8 * section)) (mantissa * unit) block _ _ (fields.address / (8 * section)) blocks (2 ^ 66)
      place_split place_block address_block raise_is
      )
