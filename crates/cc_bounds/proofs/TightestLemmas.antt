-- A granted span is close to its request, and lies within the span of each word that covers the request.
use Rattle.std.proofs.Common.{subst, ◌≡◌, ℕ, ◌+◌, ◌-◌, ◌*◌, ◌<◌, ◌≤◌, ◌/◌, ◌^◌, Bool, true, false, refl, sym, ◌∙◌, ap, arith, inl, inr}
use Rattle.std.specs.Int.{div_ceil}
use Rattle.std.proofs.Math.Nat.{mul-le-mul_right}
use Rattle.std.proofs.lemmas.Nat.{pow_pos, pow-add, le-div}
use Rattle.std.proofs.lemmas.Bool.{cases_lt}
use Rattle.cc_bounds.specs.declared.span.Span.{Span}
use Rattle.cc_bounds.specs.Span.{IsSpan, IsWithin, length_of}
use Rattle.cc_bounds.specs.Granule.{granule_count, IsGranted, IsSound, granted_span}
use Rattle.cc_bounds.specs.Decoding.{stored_exponent}
use Rattle.cc_bounds.specs.Tightest.{IsDecoded, IsTight, IsTightest}
use Rattle.cc_bounds.proofs.PlaceLemmas.{stored_exponent-le}
use Rattle.cc_bounds.proofs.DecodedSpanLemmas.{word_short, word_long, IsInGranules}
use Rattle.cc_bounds.proofs.GranuleLemmas.{div_ceil-le, granule_count-covered, least-granule, least-short}
use Rattle.cc_bounds.proofs.SoundLemmas.{same_span, IsLongGranted, granted-long, granted-short}
use Rattle.cc_bounds.proofs.ComputingLemmas.{granted_span-is}

-- ---- close to the request

pub granted-tight : (request granted : Span) → IsSpan request → IsGranted request granted → IsTight request granted
granted-tight request granted span h =
    elim (cases_lt (length_of request) 4096) [
      | inl short ↦
          let same = granted-short request granted short h in
          let base = ap (λ (s : Span). s.base) same in
          let top = ap (λ (s : Span). s.top) same in
          let one = h.is_granule.small short in
          record {
            granule = h.granule;
            is_granule = h.is_granule;
            covers = record { from_base = omega (arith, base); to_top = omega (arith, top) };
            small = λ _. same;
            near_base = omega (arith, base, one);
            near_top = omega (arith, top, one);
            short = λ long. absurd (omega (arith, short, long));
          }
      | inr long ↦
          let facts = granted-long request granted span long h in
          record {
            granule = 2 ^ (facts.exponent + 3);
            is_granule = least-granule request facts.exponent long facts.least;
            covers = record { from_base = facts.from_base; to_top = facts.to_top };
            small = λ short. absurd (omega (arith, short, long));
            near_base = facts.near_base;
            near_top = facts.near_top;
            short = λ _. least-short request facts.exponent long facts.least;
          }
    ]

-- ---- within every word

-- numbers of large granules that hold a request hold it rounded to smaller ones
within_granules : (n m e k base top first last : ℕ) → e ≤ k → n * 2 ^ (k + 3) ≤ base → top ≤ m * 2 ^ (k + 3)
    → first ≡ base / 2 ^ (e + 3) → last ≡ div_ceil top (2 ^ (e + 3))
    → (n * 2 ^ (k + 3) ≤ first * 2 ^ (e + 3)) × (last * 2 ^ (e + 3) ≤ m * 2 ^ (k + 3))
within_granules n m e k base top first last le from to first_is last_is =
    let g : ℕ = 2 ^ (e + 3) in
    let c : ℕ = 2 ^ (k - e) in
    let pos = pow_pos (e + 3) in
    let split : c * g ≡ 2 ^ (k + 3) = let s : k - e + (e + 3) ≡ k + 3 = omega arith in sym (pow-add 2 (k - e) (e + 3)) ∙ ap (λ (x : ℕ). 2 ^ x) s in
    let n_units = ap (λ (x : ℕ). n * x) split in
    let m_units = ap (λ (x : ℕ). m * x) split in
    let down = le-div (n * c) base g pos (omega (arith, n_units, from)) in
    let up = div_ceil-le top g (m * c) pos (omega (arith, m_units, to)) in
    let down' = mul-le-mul_right g down in
    let up' = mul-le-mul_right g up in
    let f = ap (λ (x : ℕ). x * g) first_is in
    let l = ap (λ (x : ℕ). x * g) last_is in
    (omega (arith, down', n_units, f), omega (arith, up', m_units, l))

-- a request of 4,096 bytes or more against a word with IE
long_within : (request granted span : Span) (k : ℕ) → IsSpan request → IsLongGranted request granted → k ≤ 52 → IsInGranules k span
    → IsWithin request span → IsWithin granted span
long_within request granted span k is_span h k_fits word covers =
    let e : ℕ = h.exponent in
    let n : ℕ = word.first in
    let m : ℕ = word.last in
    let from : n * 2 ^ (k + 3) ≤ request.base = omega (arith, word.base_is, covers.from_base) in
    let to : request.top ≤ m * 2 ^ (k + 3) = omega (arith, word.top_is, covers.to_top) in
    let touches = granule_count-covered request (2 ^ (k + 3)) n m (pow_pos (k + 3)) from to in
    elim (cases_lt 1023 (granule_count request (2 ^ (k + 3)))) [
      | inl many ↦
          elim (cases_lt k 51) [
            | inl small ↦ let few = word.few small in absurd (omega (arith, many, touches, few))
            | inr large ↦ whole large many from to
          ]
      | inr few ↦
          let least = h.least.least k few in
          let both = within_granules n m e k request.base request.top h.first h.last least from to h.first_is h.last_is in
          record {
            from_base = omega (arith, word.base_is, h.base_is, both.0);
            to_top = omega (arith, word.top_is, h.top_is, both.1);
          }
    ]
  where
    -- at exponents 51 and 52 such a word has the whole address space
    whole : 51 ≤ k → 1023 < granule_count request (2 ^ (k + 3)) → word.first * 2 ^ (k + 3) ≤ request.base
        → request.top ≤ word.last * 2 ^ (k + 3) → IsWithin granted span
    whole large many from to =
        elim (cases_lt k 52) [
          | inl less ↦
              let is : k ≡ 51 = omega (arith, large, less) in
              let many' = subst (λ (x : ℕ). 1023 < granule_count request (2 ^ (x + 3))) is many in
              let base = subst (λ (x : ℕ). span.base ≡ word.first * 2 ^ (x + 3)) is word.base_is in
              let top = subst (λ (x : ℕ). span.top ≡ word.last * 2 ^ (x + 3)) is word.top_is in
              let from' = subst (λ (x : ℕ). word.first * 2 ^ (x + 3) ≤ request.base) is from in
              let to' = subst (λ (x : ℕ). request.top ≤ word.last * 2 ^ (x + 3)) is to in
              let fits = is_span.top_fits in
              let granted_fits = h.top_fits in
              record {
                from_base = omega (arith, many', base, from', fits);
                to_top = omega (arith, many', top, to', fits, granted_fits);
              }
          | inr more ↦
              let is : k ≡ 52 = omega (arith, k_fits, more) in
              let many' = subst (λ (x : ℕ). 1023 < granule_count request (2 ^ (x + 3))) is many in
              let fits = is_span.top_fits in
              absurd (omega (arith, many', fits))
        ]

pub granted-tightest : (request granted : Span) → IsSpan request → IsGranted request granted → IsTightest request granted
granted-tightest request granted is_span h fields span word covers =
    elim (cases_lt (length_of request) 4096) [
      | inl short ↦ subst (λ (s : Span). IsWithin s span) (sym (granted-short request granted short h)) covers
      | inr long ↦ by_ie long fields.ie refl
    ]
  where
    by_ie : 4096 ≤ length_of request → (ie : Bool) → fields.ie ≡ ie → IsWithin granted span
    by_ie long true is =
        long_within request granted span (stored_exponent fields) is_span (granted-long request granted is_span long h)
        (stored_exponent-le fields) (word_long fields span word is) covers
    by_ie long false is =
        let short = word_short fields span word is in
        absurd (omega (arith, short, long, covers.from_base, covers.to_top))

-- a span that some word decodes to is sound
pub decoded-sound : (span : Span) → IsSpan span → IsDecoded span → IsSound span
decoded-sound span is_span word =
    let granted : Span = granted_span span in
    let h : IsGranted span granted = granted_span-is span is_span in
    let own : IsWithin span span = record { from_base = omega arith; to_top = omega arith } in
    let inside : IsWithin granted span = granted-tightest span granted is_span h word.0 span word.1 own in
    let covers = (granted-tight span granted is_span h).covers in
    let same : granted ≡ span = same_span granted span
    (omega (arith, inside.from_base, covers.from_base)) (omega (arith, inside.to_top, covers.to_top)) in
    subst (λ (s : Span). IsGranted span s) same h
