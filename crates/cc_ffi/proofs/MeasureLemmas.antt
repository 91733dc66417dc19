-- The length and the granule of a word, and the bytes that rounding adds at each end.
use Rattle.std.proofs.Common.{ℕ, Bool, true, false, ◌≡◌, ◌∙◌, ◌+◌, ◌-◌, ◌*◌, ◌%◌, ◌<◌, ◌≤◌, ◌^◌, arith, ap, refl, sym, subst, inl, inr}
use Rattle.std.specs.Prelude.{if◌then◌else◌}
use Rattle.std.proofs.Math.Pow.{pow_mono}
use Rattle.std.proofs.lemmas.Bool.{cases_lt}
use Rattle.cc_word.specs.declared.fields.Fields.{Fields}
use Rattle.cc_bounds.specs.declared.span.Span.{Span}
use Rattle.cc_bounds.specs.Span.{IsSpan, length_of, span_from}
use Rattle.cc_bounds.specs.Granule.{IsGranule, IsGranted, exponent_of, granule_of}
use Rattle.cc_bounds.specs.Encoding.{StoresSpan, ie_of}
use Rattle.cc_bounds.specs.Decoding.{stored_exponent, DecodesTo}
use Rattle.cc_bounds.specs.Tightest.{IsTight}
use Rattle.cc_bounds.proofs.ComputingLemmas.{bounds_fields-are, granule_of-is, granule_of-long, granule_of-short}
use Rattle.cc_bounds.proofs.GranuleLemmas.{granted_same}
use Rattle.cc_bounds.proofs.PlaceLemmas.{stored_exponent-le}
use Rattle.cc_bounds.proofs.SoundDecodingLemmas.{stored_exponent-is}
use Rattle.cc_ffi.specs.Measures.{stored_granule, IsExcess}

-- ---- the length

-- the found span has the length of the span
pub found_length : (span found : Span) (fields : Fields) (base n : ℕ) → DecodesTo fields span → span ≡ found → base ≡ found.base
    → n ≡ (found.top + (2 ^ 128 - base)) % 2 ^ 128 → n ≡ (span.top + 2 ^ 128 - span.base) % 2 ^ 128
found_length span found fields base n decodes same is_base is =
    let kept = decodes.is_base.kept in
    let same_base : span.base ≡ found.base = ap (λ (s : Span). s.base) same in
    let same_top : span.top ≡ found.top = ap (λ (s : Span). s.top) same in
    let fits : span.base < 2 ^ 64 = omega (arith, kept) in
    omega (arith, same_base, same_top, is_base, is, fits)

-- ---- the granule

granule_by : (ie : Bool) (e : ℕ) (span : Span) → ie ≡ ie_of span → e ≡ exponent_of span
    → (if ie then 2 ^ (e + 3) else 1) ≡ granule_of span
granule_by ie e span is_ie is_e =
    elim (cases_lt (length_of span) 4096) [
      | inl short ↦
          let flag : ie_of span ≡ false = grind arith in
          let off : ie ≡ false = is_ie ∙ flag in
          rw off (sym (granule_of-short span short))
      | inr long ↦
          let flag : ie_of span ≡ true = grind arith in
          let on : ie ≡ true = is_ie ∙ flag in
          rw on (ap (λ (n : ℕ). 2 ^ (n + 3)) is_e ∙ sym (granule_of-long span long))
    ]

-- fields that store a span have its granule
granule_stored : (fields : Fields) (span : Span) → StoresSpan fields span → IsGranule span (stored_granule fields)
granule_stored fields span stores =
    let are = bounds_fields-are span fields.ie fields.t fields.b stores.is_span stores.bounds_fields in
    let same = stored_exponent-is span fields stores.is_span stores.sound stores.bounds_fields in
    subst (IsGranule span) (sym (granule_by fields.ie (stored_exponent fields) span are.is_ie same)) (granule_of-is span stores.is_span)

shifted : (ie : Bool) (s e : ℕ) → ie ≡ true → e ≡ s → s ≤ 52 → (if ie then 2 ^ (s + 3) else 1) ≡ 1 * 2 ^ (e + 3) % 2 ^ 64
shifted ie s e on is fits =
    let l : s + 3 ≤ 55 = omega arith in
    let small = pow_mono l in
    let same : 2 ^ (e + 3) ≡ 2 ^ (s + 3) = ap (λ (n : ℕ). 2 ^ (n + 3)) is in
    let whole : 2 ^ (s + 3) ≡ 1 * 2 ^ (e + 3) % 2 ^ 64 = omega (arith, small, same) in
    rw on whole

-- with IE, as a shift computes it
pub granule_with_ie : (fields own : Fields) (span : Span) (e : ℕ) → fields ≡ own → own.ie ≡ true → e ≡ stored_exponent own
    → StoresSpan fields span → IsGranule span (1 * 2 ^ (e + 3) % 2 ^ 64)
granule_with_ie fields own span e same on is_e stores =
    let is = granule_stored own span (subst (λ (f : Fields). StoresSpan f span) same stores) in
    subst (IsGranule span) (shifted own.ie (stored_exponent own) e on is_e (stored_exponent-le own)) is

-- ---- the bytes that rounding adds

pub excess_of : (base length from n : ℕ) (own set granted : Span) → base < 2 ^ 64 → from ≡ base → n ≡ length → own ≡ set
    → IsTight (span_from base n) set → IsGranted (span_from base n) set → IsSpan set → IsGranted (span_from base length) granted
    → IsExcess (span_from base length) granted (record {
      before = (base + (2 ^ 64 - own.base)) % 2 ^ 64;
      after = (own.top + (2 ^ 128 - (from + n))) % 2 ^ 128;
      in_range = true;
    })
excess_of base length from n own set granted base_fits is_from is_n is_own tight grants is_span is_granted =
    let grants' = subst (λ (size : ℕ). IsGranted (span_from base size) set) is_n grants in
    let same = granted_same (span_from base length) set granted grants' is_granted in
    let own_base : own.base ≡ set.base = ap (λ (s : Span). s.base) is_own in
    let own_top : own.top ≡ set.top = ap (λ (s : Span). s.top) is_own in
    let same_base : set.base ≡ granted.base = ap (λ (s : Span). s.base) same in
    let same_top : set.top ≡ granted.top = ap (λ (s : Span). s.top) same in
    let from_base = tight.covers.from_base in
    let to_top = tight.covers.to_top in
    let top_fits = is_span.top_fits in
    record {
      in_range = refl;
      before = omega (arith, own_base, same_base, from_base, base_fits);
      after = omega (arith, own_top, same_top, to_top, top_fits, is_from, is_n);
    }
