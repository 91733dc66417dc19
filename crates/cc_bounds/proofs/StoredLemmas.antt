-- The span that a word decodes to is stored in the word's own fields, if every bit of them counts.
use Rattle.std.proofs.Common.{◌≡◌, ℕ, suc, ◌+◌, ◌-◌, ◌*◌, ◌<◌, ◌≤◌, ◌/◌, ◌%◌, ◌^◌, Bool, true, false, refl, sym, ◌∙◌, ap, subst, arith, inl, inr}
use Rattle.std.specs.Prelude.{◌↔◌, min}
use Rattle.std.proofs.Math.Nat.{mul-le-mul_right, mul-mod_left, pow-suc}
use Rattle.std.proofs.Math.Pow.{pow_mono, mod-mod-pow, mod-pow-add}
use Rattle.std.proofs.lemmas.Nat.{pow_pos, shl-shr}
use Rattle.std.proofs.lemmas.Bool.{cases_lt}
use Rattle.cc_word.specs.Word.{bit_of}
use Rattle.cc_word.specs.declared.fields.Fields.{Fields}
use Rattle.cc_bounds.specs.declared.span.Span.{Span}
use Rattle.cc_bounds.specs.Span.{IsSpan, length_of}
use Rattle.cc_bounds.specs.Granule.{granule_count, IsExponent, exponent_of}
use Rattle.cc_bounds.specs.Encoding.{HasBoundsFields, StoresSpan, IsEncoding, ie_of}
use Rattle.cc_bounds.specs.Decoding.{stored_exponent, exponent_field, base_mantissa, exponent_digits, IsTopMantissa, DecodesTo, EveryBitCounts}
use Rattle.cc_bounds.proofs.PlaceLemmas.{units_lt, stored_exponent-le}
use Rattle.cc_bounds.proofs.StandingLemmas.{mantissa_length, mantissa_length-fits, base_mantissa-fits, standing}
use Rattle.cc_bounds.proofs.DecodedSpanLemmas.{top-above, length-fits, word_short}
use Rattle.cc_bounds.proofs.DecodedTopLemmas.{mantissa_kept, large_base}
use Rattle.cc_bounds.proofs.DecodingLemmas.{IsTopMantissa-same}
use Rattle.cc_bounds.proofs.GranuleLemmas.{granule_count-covered, granule_count-many, IsLeastExponent, first-least, least-exponent}
use Rattle.cc_bounds.proofs.EncodingLemmas.{granule-units, sound-long, sound-fit}
use Rattle.cc_bounds.proofs.ComputingLemmas.{exponent_of-is, bounds_fields-are}
use Rattle.cc_bounds.proofs.TightestLemmas.{decoded-sound}
use Rattle.cc_bounds.proofs.SoundDecodingLemmas.{decodes-representable, stored_exponent-is, long_stores}

-- ---- in units

-- the units that are kept of a number of units, if `bits` bits of it are kept
kept_units : (units exponent bits : ℕ) → exponent ≤ bits
    → units * 2 ^ exponent % 2 ^ bits ≡ units % 2 ^ (bits - exponent) * 2 ^ exponent
kept_units units exponent bits fits =
    let sum : bits ≡ bits - exponent + exponent = omega arith in
    let split = mod-pow-add (units * 2 ^ exponent) (bits - exponent) exponent in
    let none = mul-mod_left units (2 ^ exponent) in
    ap (λ (n : ℕ). units * 2 ^ exponent % 2 ^ n) sum ∙ split
    ∙ ap (λ (n : ℕ). n % 2 ^ (bits - exponent) * 2 ^ exponent + units * 2 ^ exponent % 2 ^ exponent) (shl-shr units exponent)
    ∙ ap (λ (n : ℕ). units % 2 ^ (bits - exponent) * 2 ^ exponent + n) none ∙ omega arith

-- the span of a word in units of 2 ^ exponent: B, with so much above it as the address says, and T as far above B
-- as the mantissas are apart
record IsInUnits (fields : Fields) (span : Span) (mantissa units : ℕ) : Type 0 where
  base_is : span.base ≡ units * 2 ^ stored_exponent fields
  top_is : span.top ≡ (units + mantissa_length (base_mantissa fields) mantissa) * 2 ^ stored_exponent fields
  rest : units % 2 ^ 14 ≡ base_mantissa fields

-- at exponents of at least 51 B has no bit that is dropped, and the top is not dropped if it is not
-- below the base
large_same : (e low length all units base top : ℕ) → 51 ≤ e → e ≤ 52 → length < 2 ^ 13 → all % 2 ^ 14 ≡ low
    → units ≡ all % 2 ^ (64 - e) → base ≡ units * 2 ^ e → top ≡ (low + length) * 2 ^ e % 2 ^ 65 → low * 2 ^ e < 2 ^ 64
    → base ≤ top → top ≤ 2 ^ 64 → (top ≡ (units + length) * 2 ^ e) × (units % 2 ^ 14 ≡ low)
large_same e low length all units base top large small fits rest is_units is_base is_top low_fits in_order top_fits =
    elim (cases_lt e 52) [
      | inl below ↦
          let is : e ≡ 51 = omega arith in
          let u = rw is at is_units in
          let b = rw is at is_base in
          let t = rw is at is_top in
          let l = rw is at low_fits in
          rw is (omega (arith, u, b, t, l), omega (arith, u, b, t, l))
      | inr above ↦
          let is : e ≡ 52 = omega arith in
          let u = rw is at is_units in
          let b = rw is at is_base in
          let t = rw is at is_top in
          let l = rw is at low_fits in
          rw is (omega (arith, u, b, t, l), omega (arith, u, b, t, l))
    ]

module _ (fields : Fields) (span : Span) (decoded : DecodesTo fields span) (is_span : IsSpan span)
    (every : EveryBitCounts fields) where
  abbrev mantissa : ℕ
  mantissa = decoded.is_top.mantissa

  abbrev length : ℕ
  length = mantissa_length (base_mantissa fields) mantissa

  abbrev units : ℕ
  units = (standing fields span decoded).base_units % 2 ^ (64 - stored_exponent fields)

  base-units : span.base ≡ units * 2 ^ stored_exponent fields
  base-units =
      let place = standing fields span decoded in
      decoded.is_base.kept ∙ ap (λ (n : ℕ). n % 2 ^ 64) place.base_is
      ∙ kept_units place.base_units (stored_exponent fields) 64 (let small = stored_exponent-le fields in omega (arith, small))

  -- below exponent 51
  small-units : stored_exponent fields < 51 → IsInUnits fields span mantissa units
  small-units small =
      let place = standing fields span decoded in
      let base_is = base-units in
      let sum : 64 - stored_exponent fields ≡ 50 - stored_exponent fields + 14 = omega (arith, small) in
      let rest : units % 2 ^ 14 ≡ base_mantissa fields =
      ap (λ (n : ℕ). place.base_units % 2 ^ n % 2 ^ 14) sum ∙ mod-mod-pow place.base_units (50 - stored_exponent fields) 14
      ∙ place.base_rest in
      let fits = length-fits (stored_exponent fields) length (mantissa_length-fits fields mantissa decoded.is_top.is_mantissa) small in
      let beside = rw place.top_is at decoded.is_top.is_top in
      let above =
      top-above (stored_exponent fields) span.base decoded.is_base.place (length * 2 ^ stored_exponent fields) span.top small
      fits decoded.is_base.kept beside in
      record { base_is = base_is; top_is = omega (arith, above, base_is); rest = rest }

  -- from exponent 51 up
  large-units : 51 ≤ stored_exponent fields → IsInUnits fields span mantissa units
  large-units large =
      let place = standing fields span decoded in
      let is_mantissa = decoded.is_top.is_mantissa in
      let low_fits = base_mantissa-fits fields in
      let sum : mantissa ≡ (base_mantissa fields + length) % 2 ^ 14 =
      let fits = is_mantissa.fits in omega (arith, low_fits, fits) in
      let kept =
      mantissa_kept (stored_exponent fields) mantissa (base_mantissa fields + length) decoded.is_top.place large
      (stored_exponent-le fields) decoded.is_top.is_place.scaled sum in
      let top = decoded.is_top.is_top.large large ∙ kept in
      let both =
      large_same (stored_exponent fields) (base_mantissa fields) length place.base_units units span.base span.top large
      (stored_exponent-le fields) (mantissa_length-fits fields mantissa is_mantissa) place.base_rest refl base-units top every.base
      is_span.in_order is_span.top_fits in
      record { base_is = base-units; top_is = both.0; rest = both.1 }

  in_units : IsInUnits fields span mantissa units
  in_units = elim (cases_lt (stored_exponent fields) 51) [ inl small ↦ small-units small | inr large ↦ large-units large ]

-- ---- the fields of a span of 4,096 bytes or more

-- the exponent of the span is the word's own
own_least : (fields : Fields) (span : Span) (first many : ℕ) (e : ℕ) → span.base ≤ span.top → 512 ≤ many → many ≤ 1023
    → span.base ≡ first * 2 ^ (e + 3) → span.top ≡ (first + many) * 2 ^ (e + 3) → IsLeastExponent span e
own_least fields span first many e order least most base top =
    let pos = pow_pos (e + 3) in
    let touches = granule_count-covered span (2 ^ (e + 3)) first (first + many) pos (omega (arith, base)) (omega (arith, top)) in
    first-least span e (omega (arith, touches, most)) before
  where
    before : (k : ℕ) → k < e → 1023 < granule_count span (2 ^ (k + 3))
    before k less =
        let order' : suc (k + 3) ≤ e + 3 = omega arith in
        let p = pow_mono order' in
        let q = pow-suc 2 (k + 3) in
        let bytes = mul-le-mul_right (2 ^ (e + 3)) least in
        let far : 1024 * 2 ^ (k + 3) ≤ length_of span = omega (arith, p, q, bytes, base, top) in
        let count = granule_count-many span (2 ^ (k + 3)) 1024 (pow_pos (k + 3)) order far in
        omega (arith, count)

module _ (fields : Fields) (span : Span) (decoded : DecodesTo fields span) (is_span : IsSpan span)
    (every : EveryBitCounts fields) where
  -- with IE
  long-fields : fields.ie ≡ true → HasBoundsFields span fields.ie fields.t fields.b
  long-fields is_ie =
      let e : ℕ = stored_exponent fields in
      let l : ℕ = mantissa_length (base_mantissa fields) decoded.is_top.mantissa in
      let u : ℕ = units fields span decoded is_span every in
      let own = in_units fields span decoded is_span every in
      let implied : l / 2 ^ 12 ≡ 1 = decoded.is_top.is_mantissa.implied ∙ ap bit_of is_ie in
      let b_is : base_mantissa fields ≡ fields.b - fields.b % 8 = rw is_ie refl in
      let t_is : decoded.is_top.mantissa % 2 ^ 12 ≡ fields.t - fields.t % 8 = decoded.is_top.is_mantissa.stored ∙ rw is_ie refl in
      let digits : exponent_digits fields ≤ 52 = every.digits is_ie in
      let is_e : e ≡ exponent_digits fields = rw is_ie (omega (arith, digits)) in
      let b_fits = base_mantissa-fits fields in
      let t_fits = decoded.is_top.is_mantissa.fits in
      let rest = own.rest in
      let eight : u % 8 ≡ 0 = omega (arith, rest, b_is) in
      let l_eight : l % 8 ≡ 0 = eights (base_mantissa fields) decoded.is_top.mantissa (fields.t - fields.t % 8) b_fits (omega (arith, b_is)) (omega arith) t_is in
      let first : ℕ = u / 8 in
      let many : ℕ = l / 8 in
      let u_is : u ≡ 8 * first = omega (arith, eight) in
      let sum_is : u + l ≡ 8 * (first + many) = omega (arith, eight, l_eight) in
      let base : span.base ≡ 8 * first * 2 ^ e = own.base_is ∙ ap (λ (n : ℕ). n * 2 ^ e) u_is in
      let top : span.top ≡ 8 * (first + many) * 2 ^ e = own.top_is ∙ ap (λ (n : ℕ). n * 2 ^ e) sum_is in
      let base_granules = base ∙ sym (granule-units first e) in
      let top_granules = top ∙ sym (granule-units (first + many) e) in
      let least : 512 ≤ many = omega (arith, implied) in
      let most : many ≤ 1023 = omega (arith, implied) in
      let bytes = mul-le-mul_right (2 ^ (e + 3)) least in
      let three : 3 ≤ e + 3 = omega arith in
      let coarse = pow_mono three in
      let long : 4096 ≤ length_of span = omega (arith, bytes, coarse, base_granules, top_granules) in
      let base_units : span.base / 2 ^ e ≡ 8 * first = ap (λ (n : ℕ). n / 2 ^ e) base ∙ shl-shr (8 * first) e in
      let top_units : span.top / 2 ^ e ≡ 8 * (first + many) = ap (λ (n : ℕ). n / 2 ^ e) top ∙ shl-shr (8 * (first + many)) e in
      record {
        exponent = e;
        is_exponent = least-exponent span e long
            (own_least fields span first many e is_span.in_order least most base_granules top_granules);
        internal = (λ _. long, λ _. is_ie);
        is_t = omega (arith, top_units, sum_is, t_is, is_e, rest, b_fits, t_fits);
        is_b = omega (arith, base_units, u_is, b_is, is_e, rest);
      }
    where
      eights : (low high t : ℕ) → low < 2 ^ 14 → low % 8 ≡ 0 → t % 8 ≡ 0 → high % 2 ^ 12 ≡ t → mantissa_length low high % 8 ≡ 0
      eights low high t fits low_eight t_eight is_t = omega arith

  -- without IE
  short-fields : fields.ie ≡ false → HasBoundsFields span fields.ie fields.t fields.b
  short-fields is_ie =
      let l : ℕ = mantissa_length (base_mantissa fields) decoded.is_top.mantissa in
      let own = in_units fields span decoded is_span every in
      let e : stored_exponent fields ≡ 0 = rw is_ie refl in
      let short = word_short fields span decoded is_ie in
      let b_is : base_mantissa fields ≡ fields.b = rw is_ie refl in
      let t_is : decoded.is_top.mantissa % 2 ^ 12 ≡ fields.t = decoded.is_top.is_mantissa.stored ∙ rw is_ie refl in
      let base = bytes _ _ _ e own.base_is in
      let top = bytes _ _ _ e own.top_is in
      let rest = own.rest in
      let t_fits = decoded.is_top.is_mantissa.fits in
      record {
        exponent = 0;
        is_exponent = record { small = λ _. refl; large = λ long. absurd (omega (arith, short, long)) };
        internal = (λ yes. let no = is_ie in absurd (cc (yes, no)), λ long. absurd (omega (arith, short, long)));
        is_t = omega (arith, base, top, rest, t_is, t_fits);
        is_b = omega (arith, base, rest, b_is);
      }
    where
      bytes : (e units number : ℕ) → e ≡ 0 → number ≡ units * 2 ^ e → number ≡ units
      bytes e units number is scaled = let own = rw is at scaled in omega (arith, own)

  -- a word whose every bit counts stores the span that it decodes to
  pub every-stored : StoresSpan fields span
  every-stored =
      let sound = decoded-sound span is_span (fields, decoded) in
      let has = by_ie fields.ie refl in
      record {
        is_span = is_span;
        sound = sound;
        bounds_fields = has;
        representable = decodes-representable span fields is_span sound has decoded;
      }
    where
      by_ie : (ie : Bool) → fields.ie ≡ ie → HasBoundsFields span fields.ie fields.t fields.b
      by_ie true is = long-fields is
      by_ie false is = short-fields is

-- every bit counts of fields that store a span
pub stored-every : (fields : Fields) (span : Span) → StoresSpan fields span → EveryBitCounts fields
stored-every fields span h =
    let are = bounds_fields-are span fields.ie fields.t fields.b h.is_span h.bounds_fields in
    elim (cases_lt (length_of span) 4096) [
      | inl short ↦
          let flag : ie_of span ≡ false = grind arith in
          let ie : fields.ie ≡ false = are.is_ie ∙ flag in
          let fits = fields.b_fits in
          record { digits = λ yes. absurd (cc (yes, ie)); base = rw ie (omega (arith, fits)) }
      | inr long ↦
          let whole = sound-long span h.is_span h.sound long in
          let facts = whole.facts in
          let stores = long_stores span fields whole.first whole.last long facts are in
          let base = facts.base_is ∙ granule-units whole.first (exponent_of span) in
          let low : 8 * whole.first % 2 ^ 14 ≤ 8 * whole.first = omega arith in
          let bytes = mul-le-mul_right (2 ^ exponent_of span) low in
          let fits = h.is_span.base_fits in
          record {
            digits = λ _. omega (arith, stores.digits, facts.exponent_fits);
            base = rw (← stores.is_e, ← stores.is_b) (omega (arith, bytes, base, fits));
          }
    ]

-- a word stores what it decodes to, exactly if that is a span and every bit of its bounds fields counts
pub stored_law : (fields : Fields) (span : Span) → DecodesTo fields span
    → StoresSpan fields span ↔ (IsSpan span × EveryBitCounts fields)
stored_law fields span decoded = (
  λ h. (h.is_span, stored-every fields span h),
  λ both. every-stored fields span decoded both.0 both.1,
)

-- ---- as it is tested

-- what a span at an exponent of at least 51 has if it is stored
abbrev Counts : (digits e low base top : ℕ) → Type 0
Counts digits e low base top = (digits ≤ 52) × (low * 2 ^ e < 2 ^ 64) × (base ≤ top) × (top ≤ 2 ^ 64)

-- in units: the length alone is more than half of the 64 bits, so that T decides
large_fits : (digits e low length base top : ℕ) → 51 ≤ digits → e ≡ min 52 digits → low < 2 ^ 14 → 2 ^ 12 ≤ length
    → length < 2 ^ 13 → base ≡ low * 2 ^ e % 2 ^ 64 → top ≡ (low + length) * 2 ^ e % 2 ^ 65
    → (low + length ≤ 2 ^ (64 - digits)) ↔ Counts digits e low base top
large_fits digits e low length base top large is_e low_fits from fits is_base is_top =
    elim (cases_lt digits 53) [
      | inl counts ↦ elim (cases_lt digits 52) [
        | inl below ↦
            let d : digits ≡ 51 = omega arith in
            let is : e ≡ 51 = omega (arith, is_e, d) in
            let b = rw is at is_base in
            let t = rw is at is_top in
            rw (d, is) (
              λ h. (omega arith, omega (arith, h), omega (arith, h, b, t), omega (arith, h, t)),
              λ all. let l = all.1 in omega (arith, l, b, t),
            )
        | inr above ↦
            let d : digits ≡ 52 = omega arith in
            let is : e ≡ 52 = omega (arith, is_e, d) in
            let b = rw is at is_base in
            let t = rw is at is_top in
            rw (d, is) (
              λ h. (omega arith, omega (arith, h), omega (arith, h, b, t), omega (arith, h, t)),
              λ all. let l = all.1 in omega (arith, l, b, t),
            )
      ]
      | inr more ↦
          let few : 64 - digits ≤ 11 = omega arith in
          let power = pow_mono few in
          (λ h. absurd (omega (arith, h, power, from)), λ all. let d = all.0 in absurd (omega (arith, d, more)))
    ]

-- from exponent 51 up T alone decides
pub large-stored : (fields : Fields) (span : Span) (field length : ℕ) → DecodesTo fields span
    → field ≡ exponent_field fields → 51 ≤ field → length < 2 ^ 13
    → IsTopMantissa fields ((base_mantissa fields + length) % 2 ^ 14)
    → (base_mantissa fields + length ≤ 2 ^ (64 - field)) ↔ StoresSpan fields span
large-stored fields span field length decoded is_field large fits is_mantissa = by_ie fields.ie refl
  where
    e : ℕ
    e = stored_exponent fields

    by_ie : (ie : Bool) → fields.ie ≡ ie → (base_mantissa fields + length ≤ 2 ^ (64 - field)) ↔ StoresSpan fields span
    by_ie false is_ie = let none = rw is_ie at is_field in absurd (omega (arith, none, large))
    by_ie true is_ie =
        let digits : field ≡ exponent_digits fields = rw is_ie at is_field in
        let is_e : e ≡ min 52 (exponent_digits fields) = rw is_ie refl in
        let is_large : 51 ≤ e = omega (arith, is_e, digits, large) in
        let small = stored_exponent-le fields in
        let low_fits = base_mantissa-fits fields in
        let implied : ((base_mantissa fields + length) % 2 ^ 14 + 2 ^ 14 - base_mantissa fields) % 2 ^ 14 / 2 ^ 12 ≡ 1 =
        is_mantissa.implied ∙ ap bit_of is_ie in
        let from : 2 ^ 12 ≤ length = omega (arith, implied, fits, low_fits) in
        let base = decoded.is_base.kept ∙ large_base e (base_mantissa fields) decoded.is_base.place is_large small decoded.is_base.is_place.scaled in
        let top =
        decoded.is_top.is_top.large is_large
        ∙ mantissa_kept e decoded.is_top.mantissa (base_mantissa fields + length) decoded.is_top.place is_large small
        decoded.is_top.is_place.scaled (IsTopMantissa-same fields decoded.is_top.mantissa _ decoded.is_top.is_mantissa is_mantissa) in
        let both =
        large_fits (exponent_digits fields) e (base_mantissa fields) length span.base span.top (omega (arith, digits, large)) is_e low_fits
        from fits base top in
        let law = stored_law fields span decoded in
        let base_fits : span.base < 2 ^ 64 = let kept = decoded.is_base.kept in omega (arith, kept) in
        rw digits (
          λ h.
              let all = both.0 h in
              law.1 (record { in_order = all.2; base_fits = base_fits; top_fits = all.3 }, record { digits = λ _. all.0; base = all.1 }),
          λ stores.
              let own = law.0 stores in
              both.1 (own.1.digits is_ie, own.1.base, own.0.in_order, own.0.top_fits),
        )

-- below exponent 51 a span has less than 2 ^ 63 bytes
pub small-short : (fields : Fields) (span : Span) → DecodesTo fields span → stored_exponent fields < 51
    → (span.base ≤ span.top) × (span.top < span.base + 2 ^ 63)
small-short fields span decoded small =
    let place = standing fields span decoded in
    let length : ℕ = mantissa_length (base_mantissa fields) decoded.is_top.mantissa in
    let fits = length-fits (stored_exponent fields) length
    (mantissa_length-fits fields decoded.is_top.mantissa decoded.is_top.is_mantissa) small in
    let beside = rw place.top_is at decoded.is_top.is_top in
    let above =
    top-above (stored_exponent fields) span.base decoded.is_base.place (length * 2 ^ stored_exponent fields) span.top small
    fits decoded.is_base.kept beside in
    (omega (arith, above), omega (arith, above, fits))

-- there the top alone decides
pub small-stored : (fields : Fields) (span : Span) → DecodesTo fields span → stored_exponent fields < 51
    → (span.top ≤ 2 ^ 64) ↔ StoresSpan fields span
small-stored fields span decoded small = (
  λ fits.
      let order = (small-short fields span decoded small).0 in
      every-stored fields span decoded (record { in_order = order; base_fits = base_fits; top_fits = fits }) counts,
  λ h. h.is_span.top_fits,
)
  where
    base_fits : span.base < 2 ^ 64
    base_fits = let kept = decoded.is_base.kept in omega (arith, kept)

    counts : EveryBitCounts fields
    counts =
        let below : stored_exponent fields ≤ 50 = omega (arith, small) in
        let power = pow_mono below in
        let fits = base_mantissa-fits fields in
        let scaled = units_lt (base_mantissa fields) (2 ^ 14) (2 ^ stored_exponent fields) 0 fits (pow_pos (stored_exponent fields)) in
        record {
          digits = λ is_ie. let uncut = rw is_ie at small in omega (arith, uncut);
          base = omega (arith, power, scaled);
        }

-- fields that store a span have no exponent above 52
pub stored-field : (fields : Fields) (span : Span) → StoresSpan fields span → exponent_field fields ≡ stored_exponent fields
stored-field fields span h = by_ie fields.ie refl
  where
    by_ie : (ie : Bool) → fields.ie ≡ ie → exponent_field fields ≡ stored_exponent fields
    by_ie true is_ie = let few = (stored-every fields span h).digits is_ie in rw is_ie (omega (arith, few))
    by_ie false is_ie = rw is_ie refl

-- the fields that store a span, as a `Set` keeps them
pub stored-encoding : (fields : Fields) (span : Span) (e : ℕ) → e ≡ stored_exponent fields → StoresSpan fields span
    → IsEncoding span e fields.ie fields.t fields.b
stored-encoding fields span e is h =
    let are = bounds_fields-are span fields.ie fields.t fields.b h.is_span h.bounds_fields in
    let fit = sound-fit span h.is_span h.sound in
    let own : e ≡ exponent_of span = is ∙ stored_exponent-is span fields h.is_span h.sound h.bounds_fields in
    record {
      is_span = h.is_span;
      sound = h.sound;
      is_exponent = subst (λ (n : ℕ). IsExponent span n) (sym own) (exponent_of-is span h.is_span);
      is_e = own;
      is_ie = are.is_ie;
      is_t = are.is_t;
      is_b = are.is_b;
      e_fits = omega (arith, own, fit.exponent_fits);
      t_fits = fields.t_fits;
      b_fits = fields.b_fits;
    }
