-- The contents of a `Set`: the exponent and the fields of a sound span.
use Rattle.std.proofs.Common.{subst, ◌≡◌, ℕ, ◌+◌, ◌-◌, ◌*◌, ◌<◌, ◌≤◌, ◌/◌, ◌%◌, ◌^◌, sym, ◌∙◌, ap, arith, inl, inr, nat_lt, bit_and}
use Rattle.std.proofs.Math.Nat.{div-add-mod', mul-le-mul_right, mul-add-div_right, mul-add-mod_self_right}
use Rattle.std.proofs.lemmas.Nat.{pow_pos, pow-add, shl-shr, and_mask}
use Rattle.std.proofs.lemmas.Bool.{cases_lt}
use Rattle.cc_bounds.specs.declared.span.Span.{Span}
use Rattle.cc_bounds.specs.Span.{IsSpan, length_of}
use Rattle.cc_bounds.specs.Granule.{IsGranule, IsExponent, IsSound, exponent_of}
use Rattle.cc_bounds.specs.Encoding.{ie_of, t_of, b_of, IsEncoding}
use Rattle.cc_bounds.proofs.GranuleLemmas.{least_same, exponent-least, power-exponent}
use Rattle.cc_bounds.proofs.SoundLemmas.{IsSoundGrant, granted-long}
use Rattle.cc_bounds.proofs.ComputingLemmas.{exponent_of-is, exponent-exponent_of, exponent_of-short}

-- a granule is eight units of its exponent
pub granule-units : (n e : ℕ) → n * 2 ^ (e + 3) ≡ 8 * n * 2 ^ e
granule-units n e = let k = ap (λ (n' : ℕ). n * n') (pow-add 2 e 3) in omega (arith, k)

-- a sound span in whole granules of its exponent
pub record IsLongSpan (span : Span) (first last : ℕ) : Type 0 where
  pub exponent_fits : exponent_of span ≤ 52
  pub few : last ≤ first + 1023
  pub many : first + 512 ≤ last
  pub base_is : span.base ≡ first * 2 ^ (exponent_of span + 3)
  pub top_is : span.top ≡ last * 2 ^ (exponent_of span + 3)
  pub base_units : span.base / 2 ^ exponent_of span ≡ 8 * first
  pub top_units : span.top / 2 ^ exponent_of span ≡ 8 * last

pub record IsLong (span : Span) : Type 0 where
  pub first : ℕ
  pub last : ℕ
  pub facts : IsLongSpan span first last

pub sound-long : (span : Span) → IsSpan span → IsSound span → 4096 ≤ length_of span → IsLong span
sound-long span is_span sound long =
    let h = granted-long span span is_span long sound in
    let e : ℕ = exponent_of span in
    let same : h.exponent ≡ e = least_same span h.exponent e h.least (exponent-least span e long (exponent_of-is span is_span)) in
    let base : span.base ≡ h.first * 2 ^ (e + 3) = h.base_is ∙ ap (λ (n : ℕ). h.first * 2 ^ (n + 3)) same in
    let top : span.top ≡ h.last * 2 ^ (e + 3) = h.top_is ∙ ap (λ (n : ℕ). h.last * 2 ^ (n + 3)) same in
    let fits = h.exponent_fits in
    record {
      first = h.first;
      last = h.last;
      facts = record {
        exponent_fits = omega (arith, fits, same);
        few = h.few;
        many = h.many;
        base_is = base;
        top_is = top;
        base_units = ap (λ (n : ℕ). n / 2 ^ e) (base ∙ granule-units h.first e) ∙ shl-shr (8 * h.first) e;
        top_units = ap (λ (n : ℕ). n / 2 ^ e) (top ∙ granule-units h.last e) ∙ shl-shr (8 * h.last) e;
      };
    }

-- the exponent and the fields fit the widths in which they are stored
pub record Fit (span : Span) : Type 0 where
  pub exponent_fits : exponent_of span ≤ 52
  pub t_fits : t_of span < 2 ^ 12
  pub b_fits : b_of span < 2 ^ 14
  pub close : span.top < span.base + 2 ^ (exponent_of span + 13)

pub sound-fit : (span : Span) → IsSpan span → IsSound span → Fit span
sound-fit span is_span sound =
    elim (cases_lt (length_of span) 4096) [
      | inl short ↦
          let e = exponent_of-short span short in
          let t : t_of span ≡ span.top / 2 ^ 0 % 2 ^ 12 + 0 / 8 = ap (λ (n : ℕ). span.top / 2 ^ n % 2 ^ 12 + n / 8) e in
          let b : b_of span ≡ span.base / 2 ^ 0 % 2 ^ 14 + 0 % 8 = ap (λ (n : ℕ). span.base / 2 ^ n % 2 ^ 14 + n % 8) e in
          let size : 2 ^ (exponent_of span + 13) ≡ 2 ^ 13 = ap (λ (n : ℕ). 2 ^ (n + 13)) e in
          record {
            exponent_fits = omega (arith, e);
            t_fits = omega (arith, t);
            b_fits = omega (arith, b);
            close = omega (arith, size, short);
          }
      | inr long ↦
          let has = sound-long span is_span sound long in
          let h = has.facts in
          let e : ℕ = exponent_of span in
          let fits = h.exponent_fits in
          let few = h.few in
          let units = mul-le-mul_right (2 ^ (e + 3)) few in
          let turn : 2 ^ (e + 13) ≡ 2 ^ (e + 3) * 2 ^ 10 =
          let i : e + 13 ≡ e + 3 + 10 = omega arith in ap (λ (n : ℕ). 2 ^ n) i ∙ pow-add 2 (e + 3) 10 in
          let pos = pow_pos (e + 3) in
          let t : t_of span ≡ 8 * has.last % 2 ^ 12 + e / 8 = ap (λ (n : ℕ). n % 2 ^ 12 + e / 8) h.top_units in
          let b : b_of span ≡ 8 * has.first % 2 ^ 14 + e % 8 = ap (λ (n : ℕ). n % 2 ^ 14 + e % 8) h.base_units in
          let base = h.base_is in
          let top = h.top_is in
          record {
            exponent_fits = fits;
            t_fits = omega (arith, t, fits);
            b_fits = omega (arith, b, fits);
            close = omega (arith, base, top, units, turn, pos);
          }
    ]

-- ---- what a `Set` stores

-- what is stored of a granted span, as it is computed
pub encoded : (granted : Span) (power e t b : ℕ) → IsSpan granted → IsSound granted
    → (length_of granted < 4096 → power ≡ 0) → (4096 ≤ length_of granted → power ≡ exponent_of granted + 3)
    → e ≡ power - 3 → t ≡ granted.top / 2 ^ e % 2 ^ 12 + e / 8 → b ≡ granted.base / 2 ^ e % 2 ^ 14 + e % 8
    → IsEncoding granted e (nat_lt 0 power) t b
encoded granted power e t b is_span sound small large is stored_t stored_b =
    let fit = sound-fit granted is_span sound in
    record {
      is_span = is_span;
      sound = sound;
      is_exponent = subst (λ (n : ℕ). IsExponent granted n) (sym e_is) (exponent_of-is granted is_span);
      is_e = e_is;
      is_ie = flag;
      is_t = t_is;
      is_b = b_is;
      e_fits = omega (arith, e_is, fit.exponent_fits);
      t_fits = rw t_is fit.t_fits;
      b_fits = rw b_is fit.b_fits;
    }
  where
    e_is : e ≡ exponent_of granted
    e_is =
        elim (cases_lt (length_of granted) 4096) [
          | inl short ↦ let none = exponent_of-short granted short in let z = small short in omega (arith, is, z, none)
          | inr long ↦ let z = large long in omega (arith, is, z)
        ]

    t_is : t ≡ t_of granted
    t_is = stored_t ∙ ap (λ (n : ℕ). granted.top / 2 ^ n % 2 ^ 12 + n / 8) e_is

    b_is : b ≡ b_of granted
    b_is = stored_b ∙ ap (λ (n : ℕ). granted.base / 2 ^ n % 2 ^ 14 + n % 8) e_is

    flag : nat_lt 0 power ≡ ie_of granted
    flag =
        elim (cases_lt (length_of granted) 4096) [
          | inl short ↦ let z = small short in grind (arith, z, short)
          | inr long ↦ let z = large long in grind (arith, z, long)
        ]

-- the granules of a request and of what it is granted have one power
pub granted-power : (request granted : Span) (power : ℕ) → IsSoundGrant request granted → IsGranule request (2 ^ power)
    → (length_of request < 4096 → power ≡ 0) → (4096 ≤ length_of request → 3 ≤ power)
    → (length_of granted < 4096 → power ≡ 0) × (4096 ≤ length_of granted → power ≡ exponent_of granted + 3)
granted-power request granted power grant is_granule small large =
    let own = grant.exponent (power - 3) (power-exponent request power is_granule small large) in
    let is = exponent-exponent_of granted (power - 3) grant.is_span own in
    elim (cases_lt (length_of request) 4096) [
      | inl short ↦
          let granted_short = grant.as_short short in
          (λ _. small short, λ long. absurd (omega (arith, long, granted_short)))
      | inr long ↦
          let some = large long in
          let granted_long = grant.as_long long in
          (λ short. absurd (omega (arith, short, granted_long)), λ _. omega (arith, is, some))
    ]

-- up to exponent 52 the twelve bits of a number from bit `exponent` up are bits of its low 64
low_bits_shifted : (n exponent : ℕ) → exponent ≤ 52 → n % 2 ^ 64 / 2 ^ exponent % 2 ^ 12 ≡ n / 2 ^ exponent % 2 ^ 12
low_bits_shifted n exponent fits =
    let upper : ℕ = n / 2 ^ 64 * 2 ^ (52 - exponent) in
    let sum : 52 - exponent + 12 + exponent ≡ 64 = omega arith in
    let power = sym (pow-add 2 (52 - exponent + 12) exponent) ∙ ap (λ (k : ℕ). 2 ^ k) sum in
    let twelve = pow-add 2 (52 - exponent) 12 in
    let whole : 2 ^ (52 - exponent) * 2 ^ 12 * 2 ^ exponent ≡ 2 ^ 64 = sym (ap (λ (k : ℕ). k * 2 ^ exponent) twelve) ∙ power in
    let scaled = ap (λ (k : ℕ). n / 2 ^ 64 * k) whole in
    let regroup : n ≡ upper * 2 ^ 12 * 2 ^ exponent + n % 2 ^ 64 = omega (arith, scaled, div-add-mod' n (2 ^ 64)) in
    sym (ap (λ (k : ℕ). k / 2 ^ exponent % 2 ^ 12) regroup
    ∙ ap (λ (k : ℕ). k % 2 ^ 12) (mul-add-div_right (pow_pos exponent) (upper * 2 ^ 12) (n % 2 ^ 64))
    ∙ mul-add-mod_self_right upper (2 ^ 12) (n % 2 ^ 64 / 2 ^ exponent))

-- the same, as a mask
pub low_bits_masked : (n low exponent : ℕ) → low ≡ n % 2 ^ 64 → exponent ≤ 52 → bit_and (low / 2 ^ exponent) (2 ^ 12 - 1) ≡ n / 2 ^ exponent % 2 ^ 12
low_bits_masked n low exponent is fits = rw (is, and_mask _ 12) (low_bits_shifted n exponent fits)
