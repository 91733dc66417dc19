-- A sound span of at least `size` bytes begins at a multiple of the granule of `size`, and is at
-- least as long as its padded size.
use Rattle.std.proofs.Common.{◌≡◌, ℕ, ◌+◌, ◌-◌, ◌*◌, ◌<◌, ◌≤◌, ◌%◌, ◌^◌, sym, ◌∙◌, ap, arith, inl, inr}
use Rattle.std.specs.Int.{div_ceil}
use Rattle.std.proofs.Math.Nat.{mul-mod_left, mul-le-mul_right}
use Rattle.std.proofs.lemmas.Nat.{pow_pos}
use Rattle.std.proofs.lemmas.Bool.{cases_lt}
use Rattle.cc_bounds.specs.declared.span.Span.{Span}
use Rattle.cc_bounds.specs.Span.{IsSpan, length_of, from_zero}
use Rattle.cc_bounds.specs.Granule.{IsSound, exponent_of, granule_of, padded_size}
use Rattle.cc_bounds.proofs.GranuleLemmas.{div_ceil-le}
use Rattle.cc_bounds.proofs.SoundLemmas.{granted-long}
use Rattle.cc_bounds.proofs.ComputingLemmas.{exponent_of-long, granule_of-short, granule_of-long, whole_smaller}

-- HasPaddedSize holds if the span begins at a multiple of the granule of `size`, and is at least as
-- long as its padded size.
pub record HasPaddedSize (span : Span) (size : ℕ) : Type 0 where
  pub aligned : span.base % granule_of (from_zero size) ≡ 0
  pub enough : padded_size size ≤ length_of span

pub sound-padded_size : (span : Span) (size : ℕ) → IsSpan span → IsSound span → size ≤ length_of span → HasPaddedSize span size
sound-padded_size span size is_span sound le =
    elim (cases_lt size 4096) [
      | inl short ↦
          let one = granule_of-short (from_zero size) (omega arith) in
          let is : padded_size size ≡ size = ap (λ (n : ℕ). div_ceil size n * n) one ∙ omega arith in
          record { aligned = ap (λ (n : ℕ). span.base % n) one ∙ omega arith; enough = omega (arith, is, le) }
      | inr long ↦
          let whole = granted-long span span is_span (omega (arith, long, le)) sound in
          let e : ℕ = whole.exponent in
          let k : ℕ = exponent_of (from_zero size) in
          let g : ℕ = 2 ^ (k + 3) in
          let n : ℕ = whole.first in
          let m : ℕ = whole.last in
          let pos : 0 < g = pow_pos (k + 3) in
          let g_is : granule_of (from_zero size) ≡ g = granule_of-long (from_zero size) (omega arith) in
          let padded : padded_size size ≡ div_ceil size g * g = ap (λ (x : ℕ). div_ceil size x * x) g_is in
          let least = exponent_of-long (from_zero size) (omega (arith, le, is_span.top_fits)) (omega arith) in
          let base_is = whole.base_is in
          let top_is = whole.top_is in
          let few = whole.few in
          let many = whole.many in
          let count_is : m - n + n ≡ m = omega (arith, many) in
          let scaled = ap (λ (x : ℕ). x * 2 ^ (e + 3)) count_is in
          let length_is : length_of span ≡ (m - n) * 2 ^ (e + 3) = omega (arith, base_is, top_is, scaled) in
          let touches = div_ceil-le (0 + size) (2 ^ (e + 3)) (m - n) (pow_pos (e + 3)) (omega (arith, length_is, le)) in
          let less : k ≤ e = least.least e (omega (arith, touches, few)) in
          let base_whole = whole_smaller n k e less in
          let length_whole = whole_smaller (m - n) k e less in
          let most = div_ceil-le size g ((m - n) * 2 ^ (e - k)) pos (omega (arith, length_is, length_whole, le)) in
          let most' = mul-le-mul_right g most in
          record {
            aligned = ap (λ (x : ℕ). span.base % x) g_is ∙ ap (λ (x : ℕ). x % g) (base_is ∙ sym base_whole) ∙ mul-mod_left (n * 2 ^ (e - k)) g;
            enough = omega (arith, padded, most', length_is, length_whole);
          }
    ]
