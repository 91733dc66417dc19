-- The start of the window of a word, and the place of a mantissa in it, found by divisions.
use Rattle.std.proofs.Common.{◌≡◌, ℕ, ◌+◌, ◌-◌, ◌*◌, ◌<◌, ◌≤◌, ◌/◌, ◌%◌, ◌^◌, inl, inr, ◌∙◌, arith}
use Rattle.std.proofs.Math.Nat.{div-add-mod', mod-lt, mod-eq_of_lt, mul-add-mod_self_right}
use Rattle.std.proofs.lemmas.Bool.{cases_lt}
use Rattle.cc_word.specs.declared.fields.Fields.{Fields}
use Rattle.cc_bounds.specs.Window.{section_of}
use Rattle.cc_bounds.specs.Decoding.{stored_exponent, raised, first_section, IsWindow, IsPlaced}
use Rattle.cc_bounds.proofs.PlaceLemmas.{section_is, stored_exponent-le, units_lt}
use Rattle.cc_bounds.proofs.StandingLemmas.{base_mantissa-fits}
use Rattle.cc_explain.specs.Steps.{AreSteps}
use Rattle.cc_explain.specs.declared.steps.Steps.{Steps}

-- the remainder of whole sizes and a number below one size is that number
rest_of : (many size rest : ℕ) → rest < size → (many * size + rest) % size ≡ rest
rest_of many size rest fits = mul-add-mod_self_right many size rest ∙ mod-eq_of_lt fits

-- the last number up to `number` with the remainder `rest`, found by a division, has that remainder
last_with_rest : (size rest number : ℕ) → rest < size → rest ≤ number → (number - (number - rest) % size) % size ≡ rest
last_with_rest size rest number fits high =
    let split = div-add-mod' (number - rest) size in
    let is : number - (number - rest) % size ≡ (number - rest) / size * size + rest = omega (arith, split) in
    rw is (rest_of ((number - rest) / size) size rest fits)

-- the number is the first from `from` on with the remainder `rest`, modulo a size
pub record Follows (size rest from number : ℕ) : Type 0 where
  pub at_least : from ≤ number
  pub below : number < from + size
  pub same : number % size ≡ rest

first_with_rest : (size rest from : ℕ) → rest < size → Follows size rest from (from + (rest + size - from % size) % size)
first_with_rest size rest from fits =
    let positive : 0 < size = omega (arith, fits) in
    let below = mod-lt from positive in
    let less = mod-lt (rest + size - from % size) positive in
    let split = div-add-mod' from size in
    elim (cases_lt rest (from % size)) [
      | inl past ↦
          let up : (rest + size - from % size) % size ≡ rest + size - from % size = mod-eq_of_lt (omega (arith, past, below)) in
          let whole : from + (rest + size - from % size) ≡ (from / size + 1) * size + rest = omega (arith, split, past, below) in
          record {
            at_least = omega arith;
            below = omega (arith, less);
            same = rw (up, whole) (rest_of (from / size + 1) size rest fits);
          }
      | inr before ↦
          let regroup : rest + size - from % size ≡ 1 * size + (rest - from % size) = omega (arith, before, below) in
          let up : (rest + size - from % size) % size ≡ rest - from % size = rw regroup (rest_of 1 size (rest - from % size) (omega (arith, fits))) in
          let whole : from + (rest - from % size) ≡ from / size * size + rest = omega (arith, split, before, below) in
          record {
            at_least = omega arith;
            below = omega (arith, less);
            same = rw (up, whole) (rest_of (from / size) size rest fits);
          }
    ]

module _ (fields : Fields) (section : ℕ) (is_section : section ≡ section_of (stored_exponent fields)) where
  -- the start of the window
  pub window_start-is : (first address : ℕ) → first ≡ first_section fields → address ≡ fields.address
      → IsWindow fields (address + 2 ^ 66 - (address + 2 ^ 66 - first * section) % (8 * section))
  window_start-is first address is_first is_address = rw (is_section, is_first, is_address) (
      let own : ℕ = section_of (stored_exponent fields) in
      let facts = section_is fields in
      let begin = units_lt (first_section fields) 8 own 0 (omega arith) facts.positive in
      let rest_fits : first_section fields * own < 8 * own = omega (arith, begin) in
      let positive : 0 < 8 * own = omega (arith, facts.positive) in
      let below = mod-lt (raised fields.address - first_section fields * own) positive in
      let high : first_section fields * own ≤ raised fields.address = omega (arith, rest_fits, facts.fits) in
      let begins = last_with_rest (8 * own) (first_section fields * own) (raised fields.address) rest_fits high in
      record { begins = begins; holds_address = record { from_start = omega arith; below_end = omega (arith, below, high) } }
      )

  -- the place of a mantissa
  pub place-is : (start mantissa number unit : ℕ) → IsWindow fields start → mantissa < 2 ^ 14 → number ≡ mantissa
      → unit ≡ 2 ^ stored_exponent fields
      → IsPlaced fields mantissa (start + (number * unit + 8 * section - start % (8 * section)) % (8 * section))
  place-is start mantissa number unit is_window fits is_number is_unit = rw (is_section, is_number, is_unit) (
      let own : ℕ = section_of (stored_exponent fields) in
      let facts = section_is fields in
      let begin = units_lt mantissa (2 ^ 14) (2 ^ stored_exponent fields) 0 fits (omega (arith, facts.positive, facts.unit)) in
      let rest_fits : mantissa * 2 ^ stored_exponent fields < 8 * own = omega (arith, begin, facts.unit) in
      let follows = first_with_rest (8 * own) (mantissa * 2 ^ stored_exponent fields) start rest_fits in
      record {
        start = start;
        is_window = is_window;
        in_window = record { from_start = follows.at_least; below_end = follows.below };
        scaled = follows.same;
      }
      )

-- how large the numbers of steps can be
pub record Fit (steps : Steps) : Type 0 where
  pub exponent : steps.exponent ≤ 52
  pub base_mantissa : steps.b < 2 ^ 14
  pub top_mantissa : steps.t < 2 ^ 14
  pub first_section : steps.first_section < 8
  pub start : steps.start < 2 ^ 67
  pub base : steps.base < 2 ^ 68
  pub top : steps.top < 2 ^ 68

-- the place of a mantissa is below 2^68, since it is less than a window above the raised address
placed-fits : (fields : Fields) (mantissa place : ℕ) → IsPlaced fields mantissa place → place < 2 ^ 68
placed-fits fields mantissa place is_place =
    let facts = section_is fields in
    let address = fields.address_fits in
    let from = is_place.is_window.holds_address.from_start in
    let below = is_place.in_window.below_end in
    omega (arith, facts.fits, address, from, below)

pub steps-fit : (fields : Fields) (steps : Steps) → AreSteps fields steps → Fit steps
steps-fit fields steps are =
    let small = stored_exponent-le fields in
    let mantissa = base_mantissa-fits fields in
    let address = fields.address_fits in
    let from = are.window.holds_address.from_start in
    record {
      exponent = omega (arith, are.exponent, small);
      base_mantissa = omega (arith, are.base_mantissa, mantissa);
      top_mantissa = are.top_mantissa.fits;
      first_section = let is = are.first_section in omega (arith, is);
      start = omega (arith, address, from);
      base = placed-fits fields steps.b steps.base are.base;
      top = placed-fits fields steps.t steps.top are.top;
    }
