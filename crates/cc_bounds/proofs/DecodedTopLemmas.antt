-- The top of a word, found from its base and the distance from B up to T.
use Rattle.std.proofs.Common.{◌≡◌, ℕ, ◌+◌, ◌-◌, ◌*◌, ◌<◌, ◌≤◌, ◌%◌, ◌^◌, ◌∙◌, sym, arith, inl, inr, bit_and}
use Rattle.std.proofs.Math.Nat.{mod-eq_of_lt}
use Rattle.std.proofs.lemmas.Nat.{and_mask}
use Rattle.std.proofs.lemmas.Bool.{cases_lt}
use Rattle.cc_word.specs.declared.fields.Fields.{Fields}
use Rattle.cc_bounds.specs.declared.span.Span.{Span}
use Rattle.cc_bounds.specs.Decoding.{stored_exponent, base_mantissa, IsTopMantissa, IsDecodedBase, IsDecodedTop, DecodesTo}
use Rattle.cc_bounds.proofs.PlaceLemmas.{stored_exponent-le}
use Rattle.cc_bounds.proofs.DecodingLemmas.{IsTopMantissa-same, IsDecodedBase-same}
use Rattle.cc_bounds.proofs.StandingLemmas.{mantissa_length, base_mantissa-fits, standing}
use Rattle.cc_bounds.proofs.DecodedSpanLemmas.{top-above, length-fits}
use Rattle.cc_bounds.proofs.ExactlyOneLemmas.{one-span}

-- from exponent 51 up the window is so large that a place has 65 bits of its mantissa
pub mantissa_kept : (exponent mantissa sum place : ℕ) → 51 ≤ exponent → exponent ≤ 52
    → place % (8 * 2 ^ (exponent + 11)) ≡ mantissa * 2 ^ exponent → mantissa ≡ sum % 2 ^ 14
    → place % 2 ^ 65 ≡ sum * 2 ^ exponent % 2 ^ 65
mantissa_kept exponent mantissa sum place large small scaled is_mantissa =
    elim (cases_lt exponent 52) [
      | inl below ↦ let is_exponent : exponent ≡ 51 = omega arith in let at_51 = rw is_exponent at scaled in rw is_exponent (omega arith)
      | inr above ↦ let is_exponent : exponent ≡ 52 = omega arith in let at_52 = rw is_exponent at scaled in rw is_exponent (omega arith)
    ]

module _ (fields : Fields) (base length : ℕ) (is_base : IsDecodedBase fields base) (fits : length < 2 ^ 13)
    (is_mantissa : IsTopMantissa fields ((base_mantissa fields + length) % 2 ^ 14)) where
  -- the one span of these fields, which has this base and this length
  abbrev span : Span
  span = (one-span fields).value

  decoded : DecodesTo fields span
  decoded = (one-span fields).has

  base_is : span.base ≡ base
  base_is = IsDecodedBase-same fields span.base base decoded.is_base is_base

  mantissa_is : decoded.is_top.mantissa ≡ (base_mantissa fields + length) % 2 ^ 14
  mantissa_is = IsTopMantissa-same fields decoded.is_top.mantissa _ decoded.is_top.is_mantissa is_mantissa

  -- below exponent 51 the top is so far above the base
  pub small_top : stored_exponent fields < 51 → IsDecodedTop fields base (base + length * 2 ^ stored_exponent fields)
  small_top small =
      let below = base_mantissa-fits fields in
      let length_is : mantissa_length (base_mantissa fields) decoded.is_top.mantissa ≡ length = omega (arith, mantissa_is, fits, below) in
      let beside = rw (standing fields span decoded).top_is at decoded.is_top.is_top in
      let bytes_fit = length-fits (stored_exponent fields) length fits small in
      let above =
      top-above (stored_exponent fields) span.base decoded.is_base.place (length * 2 ^ stored_exponent fields) span.top small
      bytes_fit decoded.is_base.kept (rw length_is at beside) in
      rw (above, base_is) at decoded.is_top

  -- from exponent 51 up the top has 65 bits of the mantissa
  pub large_top : 51 ≤ stored_exponent fields
      → IsDecodedTop fields base ((base_mantissa fields + length) * 2 ^ stored_exponent fields % 2 ^ 65)
  large_top large =
      let kept =
      mantissa_kept (stored_exponent fields) decoded.is_top.mantissa (base_mantissa fields + length) decoded.is_top.place large
      (stored_exponent-le fields) decoded.is_top.is_place.scaled mantissa_is in
      rw (decoded.is_top.is_top.large large ∙ kept, base_is) at decoded.is_top

-- the same, of numbers that are the base and the exponent; the shift loses no bit
pub small_decodes : (fields : Fields) (base length scale wide shifted : ℕ) → IsDecodedBase fields base → length < 2 ^ 13
    → IsTopMantissa fields ((base_mantissa fields + length) % 2 ^ 14) → scale ≡ stored_exponent fields → scale < 51
    → wide ≡ base → shifted ≡ length * 2 ^ scale % 2 ^ 64 → DecodesTo fields (record { base = base; top = wide + shifted })
small_decodes fields base length scale wide shifted is_base fits is_mantissa is_scale small is_wide is_shifted =
    let small_exponent : stored_exponent fields < 51 = rw is_scale at small in
    let bytes_fit = length-fits (stored_exponent fields) length fits small_exponent in
    let kept : length * 2 ^ stored_exponent fields % 2 ^ 64 ≡ length * 2 ^ stored_exponent fields = mod-eq_of_lt (omega (arith, bytes_fit)) in
    record { is_base = is_base; is_top = rw (is_wide, is_shifted, is_scale, kept) (small_top fields base length is_base fits is_mantissa small_exponent) }

-- from exponent 51 up the base has all bits of B that 64 bits can have
pub large_base : (e low place : ℕ) → 51 ≤ e → e ≤ 52 → place % (8 * 2 ^ (e + 11)) ≡ low * 2 ^ e → place % 2 ^ 64 ≡ low * 2 ^ e % 2 ^ 64
large_base e low place large small scaled =
    elim (cases_lt e 52) [
      | inl below ↦ let is : e ≡ 51 = omega arith in let at_51 = rw is at scaled in rw is (omega arith)
      | inr above ↦ let is : e ≡ 52 = omega arith in let at_52 = rw is at scaled in rw is (omega arith)
    ]

-- the bounds from exponent 51 up: the mask keeps 65 bits of the shifted sum
pub large_decodes : (fields : Fields) (length scale low sum : ℕ) → length < 2 ^ 13
    → IsTopMantissa fields ((base_mantissa fields + length) % 2 ^ 14) → scale ≡ stored_exponent fields → 51 ≤ scale
    → low ≡ base_mantissa fields → sum ≡ low + length
    → DecodesTo fields (record { base = low * 2 ^ scale % 2 ^ 64; top = bit_and (sum * 2 ^ scale % 2 ^ 128) (2 ^ 65 - 1) })
large_decodes fields length scale low sum fits is_mantissa is_scale large is_low is_sum =
    let e : ℕ = stored_exponent fields in
    let own = (one-span fields).has.is_base in
    let large_exponent : 51 ≤ e = rw is_scale at large in
    let base : IsDecodedBase fields (base_mantissa fields * 2 ^ e % 2 ^ 64) =
    record {
      place = own.place;
      is_place = own.is_place;
      kept = sym (large_base e (base_mantissa fields) own.place large_exponent (stored_exponent-le fields) own.is_place.scaled);
    } in
    let top : ℕ = (base_mantissa fields + length) * 2 ^ e in
    let kept : top % 2 ^ 128 % 2 ^ 65 ≡ top % 2 ^ 65 = omega arith in
    record {
      is_base = rw (is_low, is_scale) base;
      is_top = rw (and_mask _ 65, is_sum, is_low, is_scale, kept) (large_top fields _ length base fits is_mantissa large_exponent);
    }
