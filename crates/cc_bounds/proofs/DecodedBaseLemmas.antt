-- The place of B, found in 64 bits from the section of the address.
use Rattle.std.proofs.Common.{◌≡◌, ℕ, ◌+◌, ◌-◌, ◌*◌, ◌<◌, ◌≤◌, ◌/◌, ◌%◌, ◌^◌, sym, ◌∙◌, ap, arith, bit_and}
use Rattle.std.proofs.Math.Nat.{add-mul-div_right, div-le_self}
use Rattle.std.proofs.lemmas.Nat.{pow-add, mul-mod_first}
use Rattle.std.proofs.lemmas.Nat.Bits.{and_high_mask}
use Rattle.std.proofs.Math.Pow.{shr-shr}
use Rattle.cc_word.specs.declared.fields.Fields.{Fields}
use Rattle.cc_bounds.specs.Window.{section_of}
use Rattle.cc_bounds.specs.Decoding.{stored_exponent, base_mantissa, raised, first_section, IsDecodedBase}
use Rattle.cc_bounds.proofs.PlaceLemmas.{start_section, stored_exponent-le, section_is, address_section-ge, placed}
use Rattle.cc_bounds.proofs.StandingLemmas.{base_mantissa-fits}

-- the number of sections from the window's start up to the address, and the section of B, in 64
-- bits
abbrev pub sections_above : (address mantissa : ℕ) → ℕ
sections_above address mantissa = (address + (2 ^ 64 - (mantissa / 2 ^ 11 + (2 ^ 64 - 1)) % 2 ^ 64)) % 2 ^ 64 % 8

abbrev pub base_section : (address mantissa : ℕ) → ℕ
base_section address mantissa = ((address + (2 ^ 64 - sections_above address mantissa)) % 2 ^ 64 + 1) % 2 ^ 64

-- the place of B in units of 2 ^ exponent, its sections counted in 64 bits
abbrev pub base_units : (address mantissa : ℕ) → ℕ
base_units address mantissa = base_section address mantissa * 2 ^ 11 % 2 ^ 64 + mantissa % 2 ^ 11

-- the window of a raised address starts as many sections below it as are counted
above_is : (address raised mantissa laps : ℕ) → raised ≡ address + laps → mantissa < 2 ^ 14 → laps % 8 ≡ 0
    → sections_above address mantissa ≡ (raised + 8 - (mantissa / 2 ^ 11 + 7) % 8) % 8
above_is address raised mantissa laps is_raised fits eight = omega arith

-- over plain numbers: the address `raised` is `above` sections above the window's start
units_kept : (address raised above mantissa laps : ℕ) → raised ≡ address + laps → above < 8 → 8 ≤ raised
    → (((address + (2 ^ 64 - above)) % 2 ^ 64 + 1) % 2 ^ 64 * 2 ^ 11 % 2 ^ 64 + mantissa % 2 ^ 11 + laps * 2 ^ 11) % 2 ^ 64
    ≡ ((raised - above + 1) * 2 ^ 11 + mantissa % 2 ^ 11) % 2 ^ 64
units_kept address raised above mantissa laps is_raised few high = omega arith

-- numbers that are equal modulo a size are so when multiplied by one unit
scaled_same : (one other unit size : ℕ) → one % size ≡ other % size → one * unit % size ≡ other * unit % size
scaled_same one other unit size same =
    sym (mul-mod_first one unit size) ∙ ap (λ (n : ℕ). n * unit % size) same ∙ mul-mod_first other unit size

-- the sum of the upper bits and of B, over plain numbers
place_is : (section unit eight start mantissa : ℕ) → section ≡ 2 ^ 11 * unit → eight ≡ 8 * section
    → start % 8 ≡ (mantissa / 2 ^ 11 + 7) % 8 → mantissa < 2 ^ 14
    → (start + 1) / 8 * eight + mantissa * unit ≡ ((start + 1) * 2 ^ 11 + mantissa % 2 ^ 11) * unit
place_is section unit eight start mantissa is_section is_eight is_start fits =
    let upper : ℕ = (start + 1) / 8 in
    let whole : eight ≡ 2 ^ 14 * unit = omega (arith, is_section, is_eight) in
    let scaled = ap (λ (n : ℕ). upper * n) whole in
    let units : upper * 2 ^ 14 + mantissa ≡ (start + 1) * 2 ^ 11 + mantissa % 2 ^ 11 = omega (arith, is_start) in
    let multiplied = ap (λ (n : ℕ). n * unit) units in
    omega (arith, scaled, multiplied)

-- whole multiples of 2 ^ 64 are not kept, over plain numbers
laps_dropped : (units laps other place unit : ℕ) → (units + laps * 2 ^ 11) % 2 ^ 64 ≡ other % 2 ^ 64
    → laps * (2 ^ 11 * unit) ≡ 2 ^ 66 → place ≡ other * unit → units * unit % 2 ^ 64 ≡ place % 2 ^ 64
laps_dropped units laps other place unit same whole is_place =
    let scaled = scaled_same (units + laps * 2 ^ 11) other unit (2 ^ 64) same in
    let apart : (units + laps * 2 ^ 11) * unit ≡ units * unit + laps * (2 ^ 11 * unit) = omega arith in
    omega (arith, scaled, apart)

module _ (fields : Fields) where
  -- the section of the address, and B
  abbrev section : ℕ
  section = section_of (stored_exponent fields)

  abbrev address : ℕ
  address = fields.address / section

  abbrev mantissa : ℕ
  mantissa = base_mantissa fields

  -- 2 ^ 66, four times the address space, in sections
  abbrev laps : ℕ
  laps = 2 ^ (55 - stored_exponent fields)

  record Laps : Type 0 where
    sections : laps * section ≡ 2 ^ 66
    eight : laps % 8 ≡ 0
    raised_is : raised fields.address / section ≡ address + laps

  laps-is : Laps
  laps-is =
      let small = stored_exponent-le fields in
      let sum : 55 - stored_exponent fields + (stored_exponent fields + 11) ≡ 66 = omega arith in
      let few : 52 - stored_exponent fields + 3 ≡ 55 - stored_exponent fields = omega arith in
      let sections = sym (pow-add 2 (55 - stored_exponent fields) (stored_exponent fields + 11)) ∙ ap (λ (n : ℕ). 2 ^ n) sum in
      let power = sym (ap (λ (n : ℕ). 2 ^ n) few) ∙ pow-add 2 (52 - stored_exponent fields) 3 in
      record {
        sections = sections;
        eight = omega (arith, power);
        raised_is = rw (sym sections) (add-mul-div_right fields.address laps (section_is fields).positive);
      }

  -- the place of B in units, of which 64 bits are kept
  pub decoded_base-is : IsDecodedBase fields (base_units address mantissa * 2 ^ stored_exponent fields % 2 ^ 64)
  decoded_base-is =
      let unit : ℕ = 2 ^ stored_exponent fields in
      let size = section_is fields in
      let four = laps-is in
      let fits = base_mantissa-fits fields in
      let raised_section : ℕ = raised fields.address / section in
      let high = address_section-ge fields in
      let start : ℕ = start_section raised_section (first_section fields) in
      let above = above_is address raised_section mantissa laps four.raised_is fits four.eight in
      let start_rest : start % 8 ≡ (mantissa / 2 ^ 11 + 7) % 8 = omega (arith, high) in
      let upper : ℕ = (start + 1) / 8 in
      let is_place = placed fields mantissa upper fits (omega (arith, start_rest, fits)) (omega (arith, start_rest, fits)) in
      let kept = units_kept address raised_section (sections_above address mantissa) mantissa laps four.raised_is (omega arith) high in
      let other : ℕ = (start + 1) * 2 ^ 11 + mantissa % 2 ^ 11 in
      let kept_other : (base_units address mantissa + laps * 2 ^ 11) % 2 ^ 64 ≡ other % 2 ^ 64 = omega (arith, kept, above) in
      let whole = sym (ap (λ (n : ℕ). laps * n) size.unit) ∙ four.sections in
      let place = place_is section unit (2 ^ (stored_exponent fields + 14)) start mantissa size.unit size.eight start_rest fits in
      record {
        place = upper * 2 ^ (stored_exponent fields + 14) + mantissa * unit;
        is_place = is_place;
        kept = laps_dropped (base_units address mantissa) laps other _ unit kept_other whole place;
      }

-- the units of an address above the window's start, whole windows of them, and B above those
abbrev above_start : (units mantissa : ℕ) → ℕ
above_start units mantissa = (units + (2 ^ 64 - (mantissa / 2 ^ 11 * 2 ^ 11 + (2 ^ 64 - 2 ^ 11)) % 2 ^ 64)) % 2 ^ 64

windows_same : (units address low mantissa : ℕ) → units ≡ address * 2 ^ 11 + low → low < 2 ^ 11 → units < 2 ^ 64 → mantissa < 2 ^ 14
    → (above_start units mantissa / 2 ^ 14 * 2 ^ 14 + mantissa) % 2 ^ 64 % 2 ^ 64 ≡ base_units address mantissa % 2 ^ 64
windows_same units address low mantissa is_units low_fits units_fit fits = omega arith

-- the place of B in the window as the code finds it, by whole windows in units of 2 ^ exponent
pub decoded_base_masked : (fields : Fields) (scale mantissa : ℕ) → scale ≡ stored_exponent fields → mantissa ≡ base_mantissa fields
    → let start : ℕ = (bit_and mantissa 14336 + (2 ^ 64 - 2048)) % 2 ^ 64 in
    let above : ℕ = (fields.address / 2 ^ scale + (2 ^ 64 - start)) % 2 ^ 64 in
    IsDecodedBase fields ((bit_and above 18446744073709535232 + mantissa) % 2 ^ 64 * 2 ^ scale % 2 ^ 64)
decoded_base_masked fields scale mantissa is_scale is_mantissa =
    let e : ℕ = stored_exponent fields in
    let b : ℕ = base_mantissa fields in
    let fits : b < 2 ^ 14 = base_mantissa-fits fields in
    let units : ℕ = fields.address / 2 ^ e in
    let units_fit : units < 2 ^ 64 = let less = div-le_self fields.address (2 ^ e) in let own = fields.address_fits in omega (arith, less, own) in
    let sections : units / 2 ^ 11 ≡ fields.address / 2 ^ (e + 11) = shr-shr fields.address e 11 in
    let same = windows_same units (fields.address / 2 ^ (e + 11)) (units % 2 ^ 11) b (omega (arith, sections)) (omega arith) units_fit fits in
    let scaled = scaled_same _ _ (2 ^ e) (2 ^ 64) same in
    let section = and_high_mask 14 11 (omega arith) b fits in
    let windows = and_high_mask 64 14 (omega arith) (above_start units b) (omega arith) in
    rw (is_scale, is_mantissa, section, windows, scaled) (decoded_base-is fields)
