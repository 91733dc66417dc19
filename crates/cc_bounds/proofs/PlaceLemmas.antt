-- The place of a mantissa: from sections of the window to numbers.
use Rattle.std.proofs.Common.{◌≡◌, ℕ, ◌+◌, ◌-◌, ◌*◌, ◌<◌, ◌≤◌, ◌/◌, ◌%◌, ◌^◌, ◌∙◌, ap, arith}
use Rattle.std.proofs.Math.Nat.{mul-le-mul_right, div-add-mod', mod-lt, mod-eq_of_lt, mul-add-mod_self_right}
use Rattle.std.proofs.Math.Pow.{pow_mono}
use Rattle.std.proofs.lemmas.Nat.{pow_pos, pow-add, le-div}
use Rattle.cc_word.specs.declared.fields.Fields.{Fields}
use Rattle.cc_bounds.specs.Window.{section_of}
use Rattle.cc_bounds.specs.Decoding.{stored_exponent, raised, first_section, IsPlaced}

-- numbers of units are in the order of their bytes, also with a remainder: any above the larger, or
-- one below a unit above the smaller
pub units_le : (few many unit rest : ℕ) → few ≤ many → few * unit ≤ many * unit + rest
units_le few many unit rest in_order = let scaled = mul-le-mul_right unit in_order in omega (arith, scaled)

pub units_lt : (few many unit rest : ℕ) → few < many → rest < unit → few * unit + rest < many * unit
units_lt few many unit rest in_order fits = let scaled = mul-le-mul_right unit in_order in omega (arith, scaled)

-- the section, counted from 0, with which the window begins that has the address in section `address` and
-- begins with section `first`, modulo 8
abbrev pub start_section : (address first : ℕ) → ℕ
start_section address first = address - (address + 8 - first) % 8

-- sections of this size, the first of the window, and an address in sections with a remainder
module _ (section first address rest : ℕ) (rest_fits : rest < section) (first_fits : first < 8) (high : 8 ≤ address) where
  -- the window, in numbers
  pub record Starts (start number : ℕ) : Type 0 where
    pub from_start : start ≤ number
    pub below_end : number < start + 8 * section
    pub begins : start % (8 * section) ≡ first * section

  pub starts : Starts (start_section address first * section) (address * section + rest)
  starts =
      let start : ℕ = start_section address first in
      let split : start ≡ start / 8 * 8 + first = omega arith in
      let scaled = ap (λ (n : ℕ). n * section) split in
      let regroup : start * section ≡ start / 8 * (8 * section) + first * section = omega (arith, scaled) in
      let first_below = units_lt first 8 section 0 first_fits (omega arith) in
      let end = units_lt address (start + 8) section rest (omega arith) rest_fits in
      record {
        from_start = units_le start address section rest (omega arith);
        below_end = omega (arith, end);
        begins = rw regroup (mul-add-mod_self_right (start / 8) (8 * section) (first * section) ∙ mod-eq_of_lt (omega (arith, first_below)));
      }

-- a mantissa in units, in the window that begins with section `start`, below corrected upper bits
module _ (section unit start mantissa upper : ℕ) (unit_is : section ≡ 2048 * unit) (positive : 0 < section)
    (mantissa_fits : mantissa < 2 ^ 14) (from_start : start ≤ 8 * upper + mantissa / 2 ^ 11)
    (below_end : 8 * upper + mantissa / 2 ^ 11 < start + 8) where
  pub record Stands (place : ℕ) : Type 0 where
    pub at_least : start * section ≤ place
    pub below : place < start * section + 8 * section
    pub scaled : place % (8 * section) ≡ mantissa * unit

  pub stands : Stands (upper * (8 * section) + mantissa * unit)
  stands =
      let high : ℕ = mantissa / 2 ^ 11 in
      let low : ℕ = mantissa % 2 ^ 11 in
      let split = ap (λ (n : ℕ). n * unit) (div-add-mod' mantissa (2 ^ 11)) in
      let scaled_unit = ap (λ (n : ℕ). high * n) unit_is in
      let mantissa_is : mantissa * unit ≡ high * section + low * unit = omega (arith, split, scaled_unit) in
      let low_scaled = units_lt low 2048 unit 0 (omega arith) (omega arith) in
      let low_fits : low * unit < section = omega (arith, low_scaled) in
      let whole = units_lt high 8 section (low * unit) (omega arith) low_fits in
      let above = units_le start (8 * upper + high) section (low * unit) from_start in
      let end = units_lt (8 * upper + high) (start + 8) section (low * unit) below_end low_fits in
      record {
        at_least = omega (arith, above, mantissa_is);
        below = omega (arith, end, mantissa_is);
        scaled = mul-add-mod_self_right upper (8 * section) (mantissa * unit) ∙ mod-eq_of_lt (omega (arith, whole, mantissa_is));
      }

module _ (fields : Fields) where
  pub stored_exponent-le : stored_exponent fields ≤ 52
  stored_exponent-le = grind arith

  -- a section, as the powers that shifts make
  pub record Section (section : ℕ) : Type 0 where
    pub positive : 0 < section
    pub unit : section ≡ 2 ^ 11 * 2 ^ stored_exponent fields
    pub eight : 2 ^ (stored_exponent fields + 14) ≡ 8 * section
    pub fits : 8 * section ≤ 2 ^ 66

  pub section_is : Section (section_of (stored_exponent fields))
  section_is =
      let exponent : ℕ = stored_exponent fields in
      let small = stored_exponent-le in
      let exponent_fits : exponent + 14 ≤ 66 = omega arith in
      let split : exponent + 14 ≡ exponent + 11 + 3 = omega arith in
      let power = pow-add 2 (exponent + 11) 3 in
      let unit = pow-add 2 exponent 11 in
      let eight : 2 ^ (exponent + 14) ≡ 8 * 2 ^ (exponent + 11) = rw split (omega (arith, power)) in
      record {
        positive = pow_pos (exponent + 11);
        unit = omega (arith, unit);
        eight = eight;
        fits = rw eight at (pow_mono exponent_fits);
      }

  -- the address, raised, is at least a window up
  pub address_section-ge : 8 ≤ raised fields.address / section_of (stored_exponent fields)
  address_section-ge =
      let section = section_is in
      le-div 8 (raised fields.address) (section_of (stored_exponent fields)) section.positive (omega (arith, section.fits))

  -- a mantissa below the corrected upper bits of the address is placed
  module _ (mantissa upper : ℕ) (fits : mantissa < 2 ^ 14)
      (from_start : start_section (raised fields.address / section_of (stored_exponent fields)) (first_section fields) ≤ 8 * upper + mantissa / 2 ^ 11)
      (below_end : 8 * upper + mantissa / 2 ^ 11 < start_section (raised fields.address / section_of (stored_exponent fields)) (first_section fields) + 8) where
    pub placed : IsPlaced fields mantissa (upper * 2 ^ (stored_exponent fields + 14) + mantissa * 2 ^ stored_exponent fields)
    placed =
        let section : ℕ = section_of (stored_exponent fields) in
        let facts = section_is in
        let address : ℕ = raised fields.address / section in
        let rest_fits = mod-lt (raised fields.address) facts.positive in
        let window = starts section (first_section fields) address (raised fields.address % section) rest_fits (omega arith) address_section-ge in
        let at_address = rw (div-add-mod' (raised fields.address) section) at window in
        let standing = stands section (2 ^ stored_exponent fields) (start_section address (first_section fields)) mantissa upper facts.unit facts.positive fits from_start below_end in
        rw facts.eight (record {
          start = start_section address (first_section fields) * section;
          is_window = record { begins = at_address.begins; holds_address = record { from_start = at_address.from_start; below_end = at_address.below_end } };
          in_window = record { from_start = standing.at_least; below_end = standing.below };
          scaled = standing.scaled;
        })
