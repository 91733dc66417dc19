-- Properties of the span that a word decodes to.
use Rattle.std.proofs.Common.{◌≡◌, ℕ, ◌+◌, ◌-◌, ◌*◌, ◌<◌, ◌≤◌, ◌/◌, ◌%◌, ◌^◌, true, false, refl, sym, ◌∙◌, ap, arith, inl, inr}
use Rattle.std.proofs.Math.Nat.{div-add-mod', mod-eq_of_lt, mod-lt, mul-add-mod_self_right}
use Rattle.std.proofs.Math.Pow.{pow_mono, mod-mod-pow}
use Rattle.std.proofs.lemmas.Nat.{pow_pos, pow-add}
use Rattle.std.proofs.lemmas.Bool.{cases_lt}
use Rattle.cc_word.specs.Word.{bit_of}
use Rattle.cc_word.specs.declared.fields.Fields.{Fields}
use Rattle.cc_bounds.specs.declared.span.Span.{Span}
use Rattle.cc_bounds.specs.Window.{section_of, IsRepresentable}
use Rattle.cc_bounds.specs.Decoding.{stored_exponent, base_mantissa, raised, IsTopBeside, DecodesTo}
use Rattle.cc_bounds.proofs.PlaceLemmas.{units_lt, stored_exponent-le, section_is}
use Rattle.cc_bounds.proofs.StandingLemmas.{mantissa_length, mantissa_length-fits, base_mantissa-fits, standing}

-- below exponent 51 the top is as far above the base as their places
pub top-above : (exponent base place length top : ℕ) → exponent < 51 → length < 2 ^ 63 → base ≡ place % 2 ^ 64
    → IsTopBeside exponent base (place + length) top → top ≡ base + length
top-above exponent base place length top small fits is_base is_top =
    let top_fits = is_top.fits in
    let same = is_top.small small in
    let near = is_top.near small in
    omega arith

-- a length in units fits 63 bits below exponent 51
pub length-fits : (exponent length : ℕ) → length < 2 ^ 13 → exponent < 51 → length * 2 ^ exponent < 2 ^ 63
length-fits exponent length fits small =
    let below : exponent ≤ 50 = omega arith in
    let power = pow_mono below in
    let scaled = units_lt length (2 ^ 13) (2 ^ exponent) 0 fits (pow_pos exponent) in
    omega (arith, power, scaled)

-- ---- without IE

-- without IE a word's span is shorter than 4,096 bytes
pub word_short : (fields : Fields) (span : Span) → DecodesTo fields span → fields.ie ≡ false → span.top < span.base + 4096
word_short fields span decoded is_ie =
    let place = standing fields span decoded in
    let top = decoded.is_top in
    let implied : mantissa_length (base_mantissa fields) top.mantissa / 2 ^ 12 ≡ 0 = top.is_mantissa.implied ∙ ap bit_of is_ie in
    let exponent : stored_exponent fields ≡ 0 = rw is_ie refl in
    let beside = rw (place.top_is, exponent) at top.is_top in
    let length : ℕ = mantissa_length (base_mantissa fields) top.mantissa in
    let above =
    top-above 0 span.base decoded.is_base.place (length * 2 ^ 0) span.top (omega arith) (omega (arith, implied))
    decoded.is_base.kept beside in
    omega (arith, above, implied)

-- ---- with IE

-- a number of units that is a multiple of eight, in granules
in_granules : (units exponent : ℕ) → units % 8 ≡ 0 → units * 2 ^ exponent ≡ units / 8 * 2 ^ (exponent + 3)
in_granules units exponent eight =
    let power = ap (λ (n : ℕ). units / 8 * n) (pow-add 2 exponent 3) in
    let split : units / 8 * 8 ≡ units = omega arith in
    let scaled = ap (λ (n : ℕ). n * 2 ^ exponent) split in
    omega (arith, power, scaled)

-- the low bits of a number of whole granules are whole granules too
kept_granules : (exponent bits number granules : ℕ) → exponent + 3 ≤ bits → number ≡ granules * 2 ^ (exponent + 3)
    → number % 2 ^ bits ≡ granules % 2 ^ (bits - (exponent + 3)) * 2 ^ (exponent + 3)
kept_granules exponent bits number granules fits is_number =
    let granule : ℕ = 2 ^ (exponent + 3) in
    let count : ℕ = 2 ^ (bits - (exponent + 3)) in
    let sum : bits - (exponent + 3) + (exponent + 3) ≡ bits = omega arith in
    let whole : count * granule ≡ 2 ^ bits = sym (pow-add 2 (bits - (exponent + 3)) (exponent + 3)) ∙ ap (λ (n : ℕ). 2 ^ n) sum in
    let rest : granules % count < count = mod-lt granules (pow_pos (bits - (exponent + 3))) in
    let rest_scaled = units_lt (granules % count) count granule 0 rest (pow_pos (exponent + 3)) in
    let split = ap (λ (n : ℕ). n * granule) (div-add-mod' granules count) in
    let regroup : granules * granule ≡ granules / count * (count * granule) + granules % count * granule = omega (arith, split) in
    ap (λ (n : ℕ). n % 2 ^ bits) is_number ∙ ap (λ (n : ℕ). granules * granule % n) (sym whole)
    ∙ ap (λ (n : ℕ). n % (count * granule)) regroup ∙ mul-add-mod_self_right (granules / count) (count * granule) (granules % count * granule) ∙ mod-eq_of_lt (omega (arith, rest_scaled))

-- a span in granules of its exponent
pub record IsInGranules (exponent : ℕ) (span : Span) : Type 0 where
  pub first : ℕ
  pub last : ℕ
  pub base_is : span.base ≡ first * 2 ^ (exponent + 3)
  pub top_is : span.top ≡ last * 2 ^ (exponent + 3)
  pub few : exponent < 51 → last ≤ first + 1023

-- with IE a word's base and top are whole granules, at most 1,023 of them apart below exponent 51
pub word_long : (fields : Fields) (span : Span) → DecodesTo fields span → fields.ie ≡ true → IsInGranules (stored_exponent fields) span
word_long fields span decoded is_ie =
    let exponent : ℕ = stored_exponent fields in
    let place = standing fields span decoded in
    let top = decoded.is_top in
    let length : ℕ = mantissa_length (base_mantissa fields) top.mantissa in
    let exponent_fits = stored_exponent-le fields in
    let base_is : base_mantissa fields ≡ fields.b - fields.b % 8 = rw is_ie refl in
    let top_is : top.mantissa % 2 ^ 12 ≡ fields.t - fields.t % 8 = top.is_mantissa.stored ∙ rw is_ie refl in
    let base_eight : base_mantissa fields % 8 ≡ 0 = omega (arith, base_is) in
    let base_fits = base_mantissa-fits fields in
    let length_fits = mantissa_length-fits fields top.mantissa top.is_mantissa in
    let length_eight : length % 8 ≡ 0 =
    eights (base_mantissa fields) top.mantissa base_fits base_eight (omega (arith, top_is)) in
    let units_eight : place.base_units % 8 ≡ 0 = eight place.base_units (base_mantissa fields) place.base_rest base_eight in
    let granules : ℕ = place.base_units / 8 in
    let base_place : decoded.is_base.place ≡ granules * 2 ^ (exponent + 3) =
    place.base_is ∙ in_granules place.base_units exponent units_eight in
    let length_granules = in_granules length exponent length_eight in
    let first : ℕ = granules % 2 ^ (64 - (exponent + 3)) in
    let base_kept : span.base ≡ first * 2 ^ (exponent + 3) =
    decoded.is_base.kept ∙ kept_granules exponent 64 decoded.is_base.place granules (omega arith) base_place in
    let beside = rw place.top_is at top.is_top in
    elim (cases_lt exponent 51) [
      | inl small ↦
          let fits = length-fits exponent length length_fits small in
          let above =
          top-above exponent span.base decoded.is_base.place (length * 2 ^ exponent) span.top small fits
          decoded.is_base.kept beside in
          record {
            first = first;
            last = first + length / 8;
            base_is = base_kept;
            top_is = omega (arith, above, base_kept, length_granules);
            few = λ _. omega (arith, length_fits);
          }
      | inr large ↦
          let top_place : decoded.is_base.place + length * 2 ^ exponent ≡ (granules + length / 8) * 2 ^ (exponent + 3) =
          omega (arith, base_place, length_granules) in
          record {
            first = first;
            last = (granules + length / 8) % 2 ^ (65 - (exponent + 3));
            base_is = base_kept;
            top_is = beside.large large ∙ kept_granules exponent 65 _ (granules + length / 8) (omega arith) top_place;
            few = λ small. absurd (omega arith);
          }
    ]
  where
    eight : (units mantissa : ℕ) → units % 2 ^ 14 ≡ mantissa → mantissa % 8 ≡ 0 → units % 8 ≡ 0
    eight units mantissa rest is_eight = omega arith

    eights : (base top : ℕ) → base < 2 ^ 14 → base % 8 ≡ 0 → top % 8 ≡ 0 → mantissa_length base top % 8 ≡ 0
    eights base top fits base_eight top_eight = omega arith

-- ---- the address

-- a number of sections and a remainder keeps the remainder if 64 bits are kept
rest_kept : (exponent sections rest place base : ℕ) → exponent ≤ 52 → place ≡ sections * section_of exponent + rest
    → rest < section_of exponent → base ≡ place % 2 ^ 64 → base / section_of exponent * section_of exponent + rest ≡ base
rest_kept exponent sections rest place base exponent_fits is_place fits is_base =
    let section : ℕ = section_of exponent in
    let sum : 64 ≡ 53 - exponent + (exponent + 11) = omega arith in
    let place_rest : place % section ≡ rest =
    ap (λ (n : ℕ). n % section) is_place ∙ mul-add-mod_self_right sections section rest ∙ mod-eq_of_lt fits in
    let base_rest : base % section ≡ rest =
    ap (λ (n : ℕ). n % section) (is_base ∙ ap (λ (n : ℕ). place % 2 ^ n) sum) ∙ mod-mod-pow place (53 - exponent) (exponent + 11) ∙ place_rest in
    let split = div-add-mod' base section in
    omega (arith, split, base_rest)

-- an address in a window is representable for a base that is one section above the window's start
representable : (exponent address start rest place base : ℕ) → section_of exponent ≤ 2 ^ 63 → address < 2 ^ 64
    → start ≤ raised address → raised address < start + 8 * section_of exponent → place ≡ start + section_of exponent + rest
    → rest < section_of exponent → base ≡ place % 2 ^ 64 → base / section_of exponent * section_of exponent + rest ≡ base
    → IsRepresentable base exponent address
representable exponent address start rest place base section_fits address_fits from_start below_end is_place fits is_base rounded =
    record { laps = 5 - place / 2 ^ 64; from_start = omega arith; below_end = omega arith }

-- the address of a word is representable for what it decodes to
pub word_representable : (fields : Fields) (span : Span) → DecodesTo fields span → IsRepresentable span.base (stored_exponent fields) fields.address
word_representable fields span decoded =
    let unit : ℕ = 2 ^ stored_exponent fields in
    let section : ℕ = section_of (stored_exponent fields) in
    let facts = section_is fields in
    let section_units = facts.unit in
    let base = decoded.is_base in
    let place = standing fields span decoded in
    let rest : ℕ = base_mantissa fields % 2 ^ 11 * unit in
    let rest_scaled =
    units_lt (base_mantissa fields % 2 ^ 11) (2 ^ 11) unit 0 (omega arith) (pow_pos (stored_exponent fields)) in
    let rest_fits : rest < section = omega (arith, rest_scaled, section_units) in
    let above = ap (λ (n : ℕ). n * unit) place.above_start in
    let start_is = place.start_is in
    let base_is = place.base_is in
    let place_is : base.place ≡ base.is_place.start + section + rest = omega (arith, above, start_is, base_is, section_units) in
    let sections = place.sections in
    let count : ℕ = place.start_units / 2 ^ 11 + 1 in
    let start_sections : place.start_units ≡ place.start_units / 2 ^ 11 * 2 ^ 11 = omega (arith, sections) in
    let start_scaled = ap (λ (n : ℕ). n * unit) start_sections in
    let count_scaled = ap (λ (n : ℕ). place.start_units / 2 ^ 11 * n) section_units in
    let in_sections : base.place ≡ count * section + rest = omega (arith, place_is, start_is, start_scaled, count_scaled) in
    let rounded =
    rest_kept (stored_exponent fields) count rest base.place span.base (stored_exponent-le fields) in_sections rest_fits
    base.kept in
    let window = base.is_place.is_window.holds_address in
    representable (stored_exponent fields) fields.address base.is_place.start rest base.place span.base
    (omega (arith, facts.fits)) fields.address_fits window.from_start window.below_end place_is rest_fits base.kept rounded
