-- The places of the base and the top of a word, in units of 2 ^ exponent.
use Rattle.std.proofs.Common.{◌≡◌, ℕ, ◌+◌, ◌-◌, ◌*◌, ◌<◌, ◌≤◌, ◌/◌, ◌%◌, ◌^◌, Bool, true, false, refl, sym, ◌∙◌, ap, arith}
use Rattle.std.proofs.Math.Nat.{div-add-mod', le_of_mul-le-mul_right, lt_of_mul-lt-mul_right}
use Rattle.std.proofs.lemmas.Nat.{pow_pos}
use Rattle.cc_word.specs.Word.{bit_of}
use Rattle.cc_word.specs.declared.fields.Fields.{Fields}
use Rattle.cc_bounds.specs.declared.span.Span.{Span}
use Rattle.cc_bounds.specs.Decoding.{stored_exponent, base_mantissa, IsTopMantissa, window_size, first_section, IsPlaced, DecodesTo}
use Rattle.cc_bounds.proofs.PlaceLemmas.{section_is}
use Rattle.cc_bounds.proofs.DecodingLemmas.{without_exponent-le, IsWindow-same}

-- if the remainder of a number, by `many` units, is whole units, the number is whole units
pub in_units : (number unit many rest : ℕ) → number % (many * unit) ≡ rest * unit → number ≡ (number / (many * unit) * many + rest) * unit
in_units number unit many rest is_rest = let split = div-add-mod' number (many * unit) in omega (arith, split, is_rest)

-- a window that begins with a section, and a number in it that stands for a mantissa, in units
pub record InUnits (unit first mantissa start place : ℕ) : Type 0 where
  pub start_units : ℕ
  pub place_units : ℕ
  pub start_is : start ≡ start_units * unit
  pub place_is : place ≡ place_units * unit
  pub from_start : start_units ≤ place_units
  pub below_end : place_units < start_units + 2 ^ 14
  pub start_rest : start_units % 2 ^ 14 ≡ first * 2 ^ 11
  pub place_rest : place_units % 2 ^ 14 ≡ mantissa

-- a window and a number in it in units, over plain numbers
units_of : (unit first mantissa start place : ℕ) → 0 < unit → first < 8 → mantissa < 2 ^ 14
    → start % (2 ^ 14 * unit) ≡ first * 2 ^ 11 * unit → place % (2 ^ 14 * unit) ≡ mantissa * unit
    → start ≤ place → place < start + 2 ^ 14 * unit → InUnits unit first mantissa start place
units_of unit first mantissa start place positive first_fits fits start_rest place_rest from_start below_end =
    let start_units : ℕ = start / (2 ^ 14 * unit) * 2 ^ 14 + first * 2 ^ 11 in
    let place_units : ℕ = place / (2 ^ 14 * unit) * 2 ^ 14 + mantissa in
    let start_is : start ≡ start_units * unit = in_units start unit (2 ^ 14) (first * 2 ^ 11) start_rest in
    let place_is : place ≡ place_units * unit = in_units place unit (2 ^ 14) mantissa place_rest in
    let in_order : start_units * unit ≤ place_units * unit = omega (arith, start_is, place_is) in
    let near : place_units * unit < (start_units + 2 ^ 14) * unit = omega (arith, start_is, place_is) in
    record {
      start_units = start_units;
      place_units = place_units;
      start_is = start_is;
      place_is = place_is;
      from_start = le_of_mul-le-mul_right in_order positive;
      below_end = lt_of_mul-lt-mul_right unit near;
      start_rest = omega arith;
      place_rest = omega arith;
    }

module _ (fields : Fields) where
  -- the unit in which the mantissas of these fields count
  abbrev unit : ℕ
  unit = 2 ^ stored_exponent fields

  -- the window's size in units
  window-units : window_size fields ≡ 2 ^ 14 * unit
  window-units = let section_units = (section_is fields).unit in omega (arith, section_units)

  -- a window and a mantissa's place in it in units
  placed-units : (mantissa place : ℕ) → mantissa < 2 ^ 14 → (is_place : IsPlaced fields mantissa place)
      → InUnits unit (first_section fields) mantissa is_place.start place
  placed-units mantissa place fits is_place =
      let sections = ap (λ (n : ℕ). first_section fields * n) (section_is fields).unit in
      let begins : is_place.start % window_size fields ≡ first_section fields * 2 ^ 11 * unit =
      is_place.is_window.begins ∙ sections ∙ omega arith in
      let start_rest = rw window-units at begins in
      let place_rest = rw window-units at is_place.scaled in
      let below_end = rw window-units at is_place.in_window.below_end in
      units_of unit (first_section fields) mantissa is_place.start place (pow_pos (stored_exponent fields)) (omega arith) fits
      start_rest place_rest is_place.in_window.from_start below_end

-- ---- base and top in one window

-- the distance from the base mantissa up to the top mantissa, modulo 2 ^ 14
abbrev pub mantissa_length : (base top : ℕ) → ℕ
mantissa_length base top = (top + 2 ^ 14 - base) % 2 ^ 14

-- B is one section above the window's start
base-above-start : (start place mantissa : ℕ) → mantissa < 2 ^ 14 → start % 2 ^ 14 ≡ (mantissa / 2 ^ 11 + 7) % 8 * 2 ^ 11
    → place % 2 ^ 14 ≡ mantissa → start ≤ place → place < start + 2 ^ 14 → place ≡ start + 2 ^ 11 + mantissa % 2 ^ 11
base-above-start start place mantissa fits start_rest place_rest from_start below_end = omega arith

-- T is as far above B as the mantissas are apart
top-above-base : (start base top base_mantissa top_mantissa : ℕ) → base_mantissa < 2 ^ 14 → top_mantissa < 2 ^ 14
    → base ≡ start + 2 ^ 11 + base_mantissa % 2 ^ 11 → base % 2 ^ 14 ≡ base_mantissa → top % 2 ^ 14 ≡ top_mantissa
    → start ≤ top → top < start + 2 ^ 14 → mantissa_length base_mantissa top_mantissa < 2 ^ 13
    → top ≡ base + mantissa_length base_mantissa top_mantissa
top-above-base start base top base_mantissa top_mantissa base_fits top_fits is_base base_rest top_rest from_start below_end near = omega arith

-- multiples of one unit that are equal have equal factors
factor_same : (unit one other : ℕ) → 0 < unit → one * unit ≡ other * unit → one ≡ other
factor_same unit one other positive same =
    let below : one * unit ≤ other * unit = omega arith in
    let above : other * unit ≤ one * unit = omega arith in
    let less = le_of_mul-le-mul_right below positive in
    let more = le_of_mul-le-mul_right above positive in
    omega (arith, less, more)

-- B has 14 bits
pub base_mantissa-fits : (fields : Fields) → base_mantissa fields < 2 ^ 14
base_mantissa-fits fields = let less = without_exponent-le fields.ie fields.b in let fits = fields.b_fits in omega (arith, less, fits)

-- a length's upper bits are IE, so it is below 2 ^ 13
pub mantissa_length-fits : (fields : Fields) (mantissa : ℕ) → IsTopMantissa fields mantissa → mantissa_length (base_mantissa fields) mantissa < 2 ^ 13
mantissa_length-fits fields mantissa is_mantissa = by_ie fields.ie refl
  where
    by_ie : (ie : Bool) → fields.ie ≡ ie → mantissa_length (base_mantissa fields) mantissa < 2 ^ 13
    by_ie true is_ie =
        let implied : mantissa_length (base_mantissa fields) mantissa / 2 ^ 12 ≡ 1 = is_mantissa.implied ∙ ap bit_of is_ie in
        omega (arith, implied)
    by_ie false is_ie =
        let implied : mantissa_length (base_mantissa fields) mantissa / 2 ^ 12 ≡ 0 = is_mantissa.implied ∙ ap bit_of is_ie in
        omega (arith, implied)

-- a sum of units, over plain numbers
sum_units : (unit base top base_units top_units length : ℕ) → base ≡ base_units * unit → top ≡ top_units * unit
    → top_units ≡ base_units + length → top ≡ base + length * unit
sum_units unit base top base_units top_units length is_base is_top apart = let scaled = ap (λ (n : ℕ). n * unit) apart in omega (arith, scaled)

-- the places of the base and the top of a word
pub record Standing (fields : Fields) (mantissa start base top : ℕ) : Type 0 where
  pub base_units : ℕ
  pub start_units : ℕ
  pub base_is : base ≡ base_units * 2 ^ stored_exponent fields
  pub start_is : start ≡ start_units * 2 ^ stored_exponent fields
  pub base_rest : base_units % 2 ^ 14 ≡ base_mantissa fields
  pub sections : start_units % 2 ^ 11 ≡ 0
  pub above_start : base_units ≡ start_units + 2 ^ 11 + base_mantissa fields % 2 ^ 11
  pub top_is : top ≡ base + mantissa_length (base_mantissa fields) mantissa * 2 ^ stored_exponent fields

-- the places of the base and the top of a word, from the span that it decodes to
pub standing : (fields : Fields) (span : Span) (decoded : DecodesTo fields span)
    → Standing fields decoded.is_top.mantissa decoded.is_base.is_place.start decoded.is_base.place decoded.is_top.place
standing fields span decoded =
    let unit : ℕ = 2 ^ stored_exponent fields in
    let base = decoded.is_base in
    let top = decoded.is_top in
    let low : ℕ = base_mantissa fields in
    let low_fits = base_mantissa-fits fields in
    let base_units = placed-units fields low base.place low_fits base.is_place in
    let top_units = placed-units fields top.mantissa top.place top.is_mantissa.fits top.is_place in
    let window = IsWindow-same fields _ _ top.is_place.is_window base.is_place.is_window in
    let scaled = sym top_units.start_is ∙ window ∙ base_units.start_is in
    let same : top_units.start_units ≡ base_units.start_units = factor_same unit _ _ (pow_pos (stored_exponent fields)) scaled in
    let from_start = rw same at top_units.from_start in
    let below_end = rw same at top_units.below_end in
    let above =
    base-above-start base_units.start_units base_units.place_units low low_fits base_units.start_rest
    base_units.place_rest base_units.from_start base_units.below_end in
    let near = mantissa_length-fits fields top.mantissa top.is_mantissa in
    let apart =
    top-above-base base_units.start_units base_units.place_units top_units.place_units low top.mantissa low_fits
    top.is_mantissa.fits above base_units.place_rest top_units.place_rest from_start below_end near in
    record {
      base_units = base_units.place_units;
      start_units = base_units.start_units;
      base_is = base_units.place_is;
      start_is = base_units.start_is;
      base_rest = base_units.place_rest;
      sections = let rest = base_units.start_rest in omega (arith, rest);
      above_start = above;
      top_is = sum_units unit base.place top.place base_units.place_units _ _ base_units.place_is top_units.place_is apart;
    }
