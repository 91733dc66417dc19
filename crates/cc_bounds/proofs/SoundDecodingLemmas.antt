-- What words with the encoding of a sound span decode to.
use Rattle.std.proofs.Common.{subst, ◌≡◌, ℕ, ◌+◌, ◌*◌, ◌<◌, ◌≤◌, ◌/◌, ◌%◌, ◌^◌, true, false, refl, sym, ◌∙◌, ap, arith, inl, inr}
use Rattle.std.specs.Prelude.{◌↔◌}
use Rattle.std.proofs.Math.Nat.{mul-le-mul_right, mul-div-mul_right, div-mul-le_self, lt-div-mul-add}
use Rattle.std.proofs.Math.Pow.{pow_mono}
use Rattle.std.proofs.lemmas.Nat.{pow_pos, pow-add}
use Rattle.std.proofs.lemmas.Bool.{cases_lt}
use Rattle.cc_word.specs.declared.fields.Fields.{Fields}
use Rattle.cc_bounds.specs.declared.span.Span.{Span}
use Rattle.cc_bounds.specs.Span.{IsSpan, length_of}
use Rattle.cc_bounds.specs.Granule.{IsSound, exponent_of}
use Rattle.cc_bounds.specs.Window.{IsRepresentable, Represents}
use Rattle.cc_bounds.specs.Encoding.{HasBoundsFields, ie_of, t_of, b_of}
use Rattle.cc_bounds.specs.Decoding.{exponent_digits, stored_exponent, without_exponent, base_mantissa, IsTopMantissa, DecodesTo}
use Rattle.cc_bounds.specs.Tightest.{DecodesBack, IsDecoded}
use Rattle.cc_bounds.proofs.DecodedSpanLemmas.{word_representable}
use Rattle.cc_bounds.proofs.ComputingLemmas.{bounds_fields-is, bounds_fields-are, AreBoundsFields, exponent_of-short, exponent_of-is, exponent-exponent_of}
use Rattle.cc_bounds.proofs.EncodingLemmas.{IsLongSpan, sound-long, granule-units, sound-fit}
use Rattle.cc_bounds.proofs.RoundTripLemmas.{IsSpanOf, IsRaised, raise_of, decodes_back}

-- what the fields of a span of 4,096 bytes or more decode with
pub record LongStores (span : Span) (fields : Fields) (first last : ℕ) : Type 0 where
  pub is_ie : fields.ie ≡ true
  pub digits : exponent_digits fields ≡ exponent_of span
  pub is_e : exponent_of span ≡ stored_exponent fields
  pub is_b : 8 * first % 2 ^ 14 ≡ base_mantissa fields
  pub is_t : IsTopMantissa fields (8 * last % 2 ^ 14)

pub long_stores : (span : Span) (fields : Fields) (first last : ℕ) → 4096 ≤ length_of span → IsLongSpan span first last
    → AreBoundsFields span fields.ie fields.t fields.b → LongStores span fields first last
long_stores span fields first last long h are =
    let e : ℕ = exponent_of span in
    let fits = h.exponent_fits in
    let few = h.few in
    let many = h.many in
    let flag : ie_of span ≡ true = grind arith in
    let ie : fields.ie ≡ true = are.is_ie ∙ flag in
    let t : fields.t ≡ 8 * last % 2 ^ 12 + e / 8 = are.is_t ∙ ap (λ (n : ℕ). n % 2 ^ 12 + e / 8) h.top_units in
    let b : fields.b ≡ 8 * first % 2 ^ 14 + e % 8 = are.is_b ∙ ap (λ (n : ℕ). n % 2 ^ 14 + e % 8) h.base_units in
    let digits : exponent_digits fields ≡ e = omega (arith, t, b, fits) in
    let is_b : 8 * first % 2 ^ 14 ≡ base_mantissa fields = rw ie (omega (arith, b, fits)) in
    let low : 8 * last % 2 ^ 12 ≡ without_exponent fields.ie fields.t = rw ie (omega (arith, t, fits)) in
    record {
      is_ie = ie;
      digits = digits;
      is_e = rw ie (omega (arith, digits, fits));
      is_b = is_b;
      is_t = record {
        fits = omega arith;
        stored = omega arith ∙ low;
        implied = rw (← is_b, ie) (omega (arith, few, many));
      };
    }

-- an address is representable for a span if it is in the window of the computed exponent
pub represents-computed : (span : Span) (address : ℕ) → IsSpan span → IsRepresentable span.base (exponent_of span) address ↔ Represents span address
unfolding Represents
represents-computed span address is_span = (
  λ within. (exponent_of span, exponent_of-is span is_span, within),
  λ at. subst (λ (e : ℕ). IsRepresentable span.base e address) (exponent-exponent_of span at.0 is_span at.1) at.2,
)

long_decodes : (span : Span) (fields : Fields) (first last : ℕ) → IsSpan span → 4096 ≤ length_of span → IsLongSpan span first last
    → AreBoundsFields span fields.ie fields.t fields.b → IsRepresentable span.base (exponent_of span) fields.address → DecodesTo fields span
long_decodes span fields first last is_span long h are at =
    let e : ℕ = exponent_of span in
    let stores = long_stores span fields first last long h are in
    let base = h.base_is ∙ granule-units first e in
    let top = h.top_is ∙ granule-units last e in
    let some = raise_of span.base e fields.address h.exponent_fits is_span.base_fits fields.address_fits at in
    let section : span.base / 2 ^ (e + 11) ≡ 8 * first / 2 ^ 11 =
    ap (λ (n : ℕ). n / 2 ^ (e + 11)) base ∙ ap (λ (n : ℕ). 8 * first * 2 ^ e / n) (pow-eleven e)
    ∙ mul-div-mul_right (8 * first) (2 ^ 11) (pow_pos e) in
    let raise = subst (λ (n : ℕ). IsRaised n e fields.address some.laps some.windows) section some.raise in
    let few = h.few in
    let many = h.many in
    let of : IsSpanOf (8 * first) (8 * last) e span.base span.top = record {
      e_fits = h.exponent_fits;
      is_base = base;
      is_top = top;
      in_order = omega (arith, many);
      close = omega (arith, few);
      base_fits = is_span.base_fits;
      top_fits = is_span.top_fits;
      narrow = narrow;
    } in
    decodes_back (8 * first) (8 * last) e span.base span.top fields.address some.laps some.windows of raise fields stores.is_e refl
    stores.is_b stores.is_t
  where
    pow-eleven : (e : ℕ) → 2 ^ (e + 11) ≡ 2 ^ 11 * 2 ^ e
    pow-eleven e = let k = pow-add 2 e 11 in omega (arith, k)

    narrow : exponent_of span < 51 → span.top < span.base + 2 ^ 63
    narrow small =
        let l : exponent_of span + 3 ≤ 53 = omega arith in
        let p = pow_mono l in
        let q = mul-le-mul_right (2 ^ (exponent_of span + 3)) h.few in
        omega (arith, p, q, h.base_is, h.top_is)

-- a shorter span
short_decodes : (span : Span) (fields : Fields) → IsSpan span → length_of span < 4096
    → AreBoundsFields span fields.ie fields.t fields.b → IsRepresentable span.base (exponent_of span) fields.address → DecodesTo fields span
short_decodes span fields is_span short are at =
    let e = exponent_of-short span short in
    let flag : ie_of span ≡ false = grind arith in
    let ie : fields.ie ≡ false = are.is_ie ∙ flag in
    let t : fields.t ≡ span.top / 2 ^ 0 % 2 ^ 12 + 0 / 8 = are.is_t ∙ ap (λ (n : ℕ). span.top / 2 ^ n % 2 ^ 12 + n / 8) e in
    let b : fields.b ≡ span.base / 2 ^ 0 % 2 ^ 14 + 0 % 8 = are.is_b ∙ ap (λ (n : ℕ). span.base / 2 ^ n % 2 ^ 14 + n % 8) e in
    let at' : IsRepresentable span.base 0 fields.address = subst (λ (n : ℕ). IsRepresentable span.base n fields.address) e at in
    let some = raise_of span.base 0 fields.address (omega arith) is_span.base_fits fields.address_fits at' in
    let order = is_span.in_order in
    let top_fits = is_span.top_fits in
    let of : IsSpanOf span.base span.top 0 span.base span.top = record {
      e_fits = omega arith;
      is_base = omega arith;
      is_top = omega arith;
      in_order = order;
      close = omega (arith, order, short);
      base_fits = is_span.base_fits;
      top_fits = top_fits;
      narrow = λ _. omega (arith, order, short);
    } in
    let is_e : 0 ≡ stored_exponent fields = rw ie refl in
    let is_b : span.base % 2 ^ 14 ≡ base_mantissa fields = rw ie (omega (arith, b)) in
    let low : span.top % 2 ^ 12 ≡ without_exponent fields.ie fields.t = rw ie (omega (arith, t)) in
    let is_t : IsTopMantissa fields (span.top % 2 ^ 14) = record {
      fits = omega arith;
      stored = omega arith ∙ low;
      implied = rw (← is_b, ie) (omega (arith, order, short));
    } in
    decodes_back span.base span.top 0 span.base span.top fields.address some.laps some.windows of some.raise fields is_e refl is_b is_t

-- fields with the encoding of a sound span decode to it at each representable address
pub sound-decodes : (span : Span) → IsSpan span → IsSound span → DecodesBack span
sound-decodes span is_span sound fields has represents =
    let are = bounds_fields-are span fields.ie fields.t fields.b is_span has in
    let at = (represents-computed span fields.address is_span).1 represents in
    elim (cases_lt (length_of span) 4096) [
      | inl short ↦ short_decodes span fields is_span short are at
      | inr long ↦
          let whole = sound-long span is_span sound long in
          long_decodes span fields whole.first whole.last is_span long whole.facts are at
    ]

-- the exponent that fields with the encoding of a sound span store
pub stored_exponent-is : (span : Span) (fields : Fields) → IsSpan span → IsSound span
    → HasBoundsFields span fields.ie fields.t fields.b → stored_exponent fields ≡ exponent_of span
stored_exponent-is span fields is_span sound has =
    let are = bounds_fields-are span fields.ie fields.t fields.b is_span has in
    elim (cases_lt (length_of span) 4096) [
      | inl short ↦
          let flag : ie_of span ≡ false = grind arith in
          let ie : fields.ie ≡ false = are.is_ie ∙ flag in
          rw ie (sym (exponent_of-short span short))
      | inr long ↦
          let whole = sound-long span is_span sound long in
          sym (long_stores span fields whole.first whole.last long whole.facts are).is_e
    ]

-- they decode to it nowhere else
pub decodes-representable : (span : Span) (fields : Fields) → IsSpan span → IsSound span
    → HasBoundsFields span fields.ie fields.t fields.b → DecodesTo fields span → Represents span fields.address
decodes-representable span fields is_span sound has decoded =
    (represents-computed span fields.address is_span).0
    (subst (λ (n : ℕ). IsRepresentable span.base n fields.address) (stored_exponent-is span fields is_span sound has)
    (word_representable fields span decoded))

-- each address of a span, and its top, is representable
pub inside-representable : (base top e address : ℕ) → e ≤ 52 → top < base + 2 ^ (e + 13) → base ≤ address → address ≤ top
    → IsRepresentable base e address
inside-representable base top e address e_fits close from to =
    let u : ℕ = 2 ^ (e + 11) in
    let down = div-mul-le_self base u in
    let pos = pow_pos (e + 11) in
    let up = lt-div-mul-add {a = base} pos in
    let l : e + 11 ≤ 63 = omega arith in
    let fits = pow_mono l in
    let four : 2 ^ (e + 13) ≡ 4 * u = let s : e + 13 ≡ e + 11 + 2 = omega arith in let p = pow-add 2 (e + 11) 2 in rw s (omega (arith, p)) in
    record {
      laps = 1;
      from_start = omega (arith, down, from, fits);
      below_end = omega (arith, up, four, close, to, fits);
    }

pub inside-Represents : (span : Span) (address : ℕ) → IsSpan span → IsSound span → span.base ≤ address → address ≤ span.top
    → Represents span address
inside-Represents span address is_span sound from to =
    let fit = sound-fit span is_span sound in
    (represents-computed span address is_span).0
    (inside-representable span.base span.top (exponent_of span) address fit.exponent_fits fit.close from to)

-- to a sound span some word decodes
pub sound-IsDecoded : (span : Span) → IsSpan span → IsSound span → IsDecoded span
sound-IsDecoded span is_span sound =
    let fit = sound-fit span is_span sound in
    let fields : Fields = record {
      perms = 0;
      reserved = 0;
      flag = false;
      otype = 0;
      ie = ie_of span;
      t = t_of span;
      b = b_of span;
      address = span.base;
      perms_fit = omega arith;
      reserved_fits = omega arith;
      otype_fits = omega arith;
      t_fits = fit.t_fits;
      b_fits = fit.b_fits;
      address_fits = is_span.base_fits;
    } in (
      fields,
      sound-decodes span is_span sound fields (bounds_fields-is span is_span)
          (inside-Represents span span.base is_span sound (omega arith) is_span.in_order),
    )

-- whether fields with the encoding of a sound span decode to it, from whether their address is representable
pub represents-decodes : (span : Span) (fields : Fields) (address : ℕ) (answer : Type 0) → IsSpan span → IsSound span
    → HasBoundsFields span fields.ie fields.t fields.b → fields.address ≡ address → answer ↔ Represents span address
    → answer ↔ DecodesTo fields span
represents-decodes span fields address answer is_span sound has is h = (
  λ yes. sound-decodes span is_span sound fields has (subst (λ (n : ℕ). Represents span n) (sym is) (h.0 yes)),
  λ decoded. h.1 (subst (λ (n : ℕ). Represents span n) is (decodes-representable span fields is_span sound has decoded)),
)
