-- The laws of encoding, as they are stated, and how much a length is padded.
use Rattle.std.proofs.Common.{subst, ◌≡◌, ℕ, zero, suc, ◌+◌, ◌*◌, ◌<◌, ◌≤◌, ◌/◌, ◌^◌, Bool, refl, sym, ◌∙◌, ap, arith, inl, inr}
use Rattle.std.specs.Prelude.{◌↔◌}
use Rattle.std.specs.Int.{div_ceil}
use Rattle.std.proofs.Math.Nat.{pow-suc, mul-le-mul_right}
use Rattle.std.proofs.lemmas.Nat.{pow_pos}
use Rattle.std.proofs.lemmas.Bool.{cases_lt}
use Rattle.cc_bounds.specs.declared.span.Span.{Span}
use Rattle.cc_bounds.specs.Span.{IsSpan, from_zero}
use Rattle.cc_bounds.specs.Granule.{IsGranule, IsExponent, rounded_to, IsGranted, IsSound, granule_of, exponent_of, granted_span, padded_size}
use Rattle.cc_bounds.specs.Encoding.{HasBoundsFields, ie_of, t_of, b_of}
use Rattle.cc_bounds.specs.Tightest.{IsDecoded}
use Rattle.cc_bounds.proofs.GranuleLemmas.{le-div_ceil, div_ceil-lt, div_ceil-le, IsLeastExponent}
use Rattle.cc_bounds.proofs.SoundLemmas.{granted-sound, long-granted}
use Rattle.cc_bounds.proofs.ComputingLemmas.{exponent_of-is, exponent-exponent_of, exponent_of-long, granule_of-is, granule-granule_of, granule_of-short, granule_of-long, granted_span-is}
use Rattle.cc_bounds.proofs.ComputingLemmas.{granted-granted_span, bounds_fields-is, bounds_fields-are, from_zero-span}
use Rattle.cc_bounds.proofs.SoundDecodingLemmas.{sound-IsDecoded}
use Rattle.cc_bounds.proofs.TightestLemmas.{decoded-sound}

pub granule_law : (request : Span) (granule : ℕ) → IsSpan request → IsGranule request granule ↔ (granule ≡ granule_of request)
granule_law request granule span = (
  λ h. granule-granule_of request granule span h,
  λ is. subst (λ (n : ℕ). IsGranule request n) (sym is) (granule_of-is request span),
)

pub exponent_law : (request : Span) (exponent : ℕ) → IsSpan request → IsExponent request exponent ↔ (exponent ≡ exponent_of request)
exponent_law request exponent span = (
  λ h. exponent-exponent_of request exponent span h,
  λ is. subst (λ (n : ℕ). IsExponent request n) (sym is) (exponent_of-is request span),
)

pub granted_law : (request granted : Span) → IsSpan request → IsGranted request granted ↔ (granted ≡ granted_span request)
granted_law request granted span = (
  λ h. granted-granted_span request granted span h,
  λ is. subst (λ (s : Span). IsGranted request s) (sym is) (granted_span-is request span),
)

pub fields_law : (span : Span) (ie : Bool) (t b : ℕ) → IsSpan span
    → HasBoundsFields span ie t b ↔ ((ie ≡ ie_of span) × (t ≡ t_of span) × (b ≡ b_of span))
fields_law span ie t b is_span = (
  λ h. let are = bounds_fields-are span ie t b is_span h in (are.is_ie, are.is_t, are.is_b),
  λ are.
      subst (λ (x : Bool). HasBoundsFields span x t b) (sym are.0)
      (subst (λ (n : ℕ). HasBoundsFields span (ie_of span) n b) (sym are.1)
      (subst (λ (n : ℕ). HasBoundsFields span (ie_of span) (t_of span) n) (sym are.2) (bounds_fields-is span is_span))),
)

pub same_exponent : (request granted : Span) → IsSpan request → IsGranted request granted → exponent_of granted ≡ exponent_of request
same_exponent request granted span h =
    let grant = granted-sound request granted span h in
    sym (exponent-exponent_of granted (exponent_of request) grant.is_span (grant.exponent (exponent_of request) (exponent_of-is request span)))

pub decoded_law : (span : Span) → IsSpan span → IsSound span ↔ IsDecoded span
decoded_law span is_span = (λ sound. sound-IsDecoded span is_span sound, λ word. decoded-sound span is_span word)

-- ---- padded sizes

-- how much a length is padded
pub record IsPadded (size : ℕ) : Type 0 where
  pub enough : size ≤ padded_size size
  pub little : padded_size size ≤ size + size / 512
  pub fits : padded_size size ≤ 2 ^ 64

-- a length of more than 1,023 half granules, rounded up to granules, is at most a 512th longer
little_padding : (size half m : ℕ) → 1023 * half < size → ((c : ℕ) → size ≤ c * (2 * half) → m ≤ c)
    → m * (2 * half) < size + 2 * half → m * (2 * half) ≤ size + size / 512
little_padding size half m above least near =
    elim (cases_lt (1024 * half) size) [
      | inl more ↦ omega (arith, near, more)
      | inr less ↦
          let few : m ≤ 512 = least 512 (omega (arith, less)) in
          let units = mul-le-mul_right (2 * half) few in
          omega (arith, units, above)
    ]

padded-least : (size e : ℕ) → size ≤ 2 ^ 64 → 4096 ≤ size → IsLeastExponent (from_zero size) e
    → div_ceil size (2 ^ (e + 3)) * 2 ^ (e + 3) ≤ size + size / 512
padded-least size zero fits long h = let near = div_ceil-lt size 8 (omega arith) in omega (arith, near, long)
padded-least size (suc e) fits long h =
    let half : ℕ = 2 ^ (e + 3) in
    let pos = pow_pos (e + 3) in
    let two : 2 ^ (suc e + 3) ≡ 2 * half =
    let s : suc e + 3 ≡ suc (e + 3) = omega arith in let p = pow-suc 2 (e + 3) in rw s (omega (arith, p)) in
    let above : 1023 * half < size =
    elim (cases_lt (1023 * half) size) [
      | inl good ↦ good
      | inr bad ↦
          let up = div_ceil-le (0 + size) half 1023 pos (omega (arith, bad)) in
          let few = h.least e (omega (arith, up)) in
          absurd (omega (arith, few))
    ] in
    rw two (little_padding size half (div_ceil size (2 * half)) above (λ c le. div_ceil-le size (2 * half) c (omega (arith, pos)) le)
    (div_ceil-lt size (2 * half) (omega (arith, pos))))

pub padded_law : (size : ℕ) → size ≤ 2 ^ 64 → IsPadded size
padded_law size fits =
    elim (cases_lt size 4096) [
      | inl short ↦
          let one = granule_of-short (from_zero size) (omega arith) in
          let is : padded_size size ≡ size = ap (λ (n : ℕ). div_ceil size n * n) one ∙ omega arith in
          record { enough = omega (arith, is); little = omega (arith, is); fits = omega (arith, is, fits) }
      | inr long ↦
          let e : ℕ = exponent_of (from_zero size) in
          let g : ℕ = 2 ^ (e + 3) in
          let is_g : granule_of (from_zero size) ≡ g = granule_of-long (from_zero size) (omega arith) in
          let is : padded_size size ≡ div_ceil size g * g = ap (λ (n : ℕ). div_ceil size n * n) is_g in
          let least = exponent_of-long (from_zero size) (omega arith) (omega arith) in
          let up = le-div_ceil size g (pow_pos (e + 3)) in
          let little = padded-least size e fits long least in
          let granted : Span = rounded_to g (from_zero size) in
          let whole = long-granted (from_zero size) granted e (from_zero-span size fits) (omega arith) least refl in
          let top : granted.top ≡ div_ceil size g * g = ap (λ (n : ℕ). div_ceil n g * g) zero_plus in
          record { enough = omega (arith, is, up); little = omega (arith, is, little); fits = omega (arith, is, top, whole.top_fits) }
    ]
  where
    zero_plus : 0 + size ≡ size
    zero_plus = omega arith
