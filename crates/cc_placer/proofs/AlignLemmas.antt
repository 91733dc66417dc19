-- Units and padded sizes of both alignments: spans of whole units are sound, and little is padded.
use Rattle.std.proofs.Common.{ℕ, zero, suc, ◌≡◌, ◌+◌, ◌-◌, ◌*◌, ◌/◌, ◌%◌, ◌^◌, ◌<◌, ◌≤◌, ◌⊎◌, refl, sym, subst, ◌∙◌, ap, arith, inl, inr}
use Rattle.std.specs.Int.{div_ceil}
use Rattle.std.proofs.Math.Nat.{add-mul-mod_self_right, div-add-mod, div-add-mod', mul-mod_right, zero-div}
use Rattle.std.proofs.lemmas.Bool.{cases_lt}
use Rattle.std.proofs.lemmas.Nat.{mul-mod, pow-add, pow_pos}
use Rattle.cc_bounds.specs.declared.span.Span.{Span}
use Rattle.cc_bounds.specs.Span.{IsSpan, from_zero, length_of, span_from}
use Rattle.cc_bounds.specs.Granule.{IsSound, granule_count, granule_of, exponent_of, padded_size}
use Rattle.cc_bounds.proofs.ComputingLemmas.{exponent_of-long, granule_of-long, granule_of-short, padded-sound}
use Rattle.cc_bounds.proofs.GranuleLemmas.{div_ceil-le, div_ceil-lt, granule_count-covered, le-div_ceil, least-granule}
use Rattle.cc_bounds.proofs.LawLemmas.{padded_law}
use Rattle.cc_bounds.proofs.SoundLemmas.{rounded_to-one, rounded_to-whole}
use Rattle.cc_bounds.specs.declared.align.Align.{Align}
use Rattle.cc_bounds.specs.declared.align.Align.TheVariants.{One, Sixteen}
use Rattle.cc_bounds.specs.Align.{align_bytes}
use Rattle.cc_placer.specs.Align.{padded_size_for, unit_of}

-- whole units of an exponent are whole units of each lower one
pub whole_smaller : (n e k : ℕ) → e ≤ k → n * 2 ^ (k - e) * 2 ^ (e + 3) ≡ n * 2 ^ (k + 3)
whole_smaller n e k le =
    let s : k - e + (e + 3) ≡ k + 3 = omega arith in
    let p = pow-add 2 (k - e) (e + 3) in
    let q : 2 ^ (k - e) * 2 ^ (e + 3) ≡ 2 ^ (k + 3) = sym p ∙ ap (λ (x : ℕ). 2 ^ x) s in
    let r = ap (λ (x : ℕ). n * x) q in
    omega (arith, r)

-- a span of at most 1,023 units, which begins at a multiple of the unit, is sound
units-sound : (span : Span) (n m k : ℕ) → m ≤ 1023 → IsSpan span → span.base ≡ n * 2 ^ (k + 3)
    → span.top ≡ (n + m) * 2 ^ (k + 3) → IsSound span
units-sound span n m k few is_span base top = elim (cases_lt (length_of span) 4096) [
  | inl short ↦ record {
    granule = 1;
    is_granule = record {
      small = λ _. refl;
      large = λ long. absurd (omega (arith, short, long));
      least = λ other long _. absurd (omega (arith, short, long));
    };
    is_rounded = sym (rounded_to-one span);
  }
  | inr long ↦
      let count = granule_count-covered span (2 ^ (k + 3)) n (n + m) (pow_pos (k + 3)) (omega (arith, base))
      (omega (arith, top)) in
      let own = exponent_of-long span is_span.top_fits long in
      let e : ℕ = exponent_of span in
      let less : e ≤ k = own.least k (omega (arith, count, few)) in
      record {
        granule = 2 ^ (e + 3);
        is_granule = least-granule span e long own;
        is_rounded = rounded_to-whole span (n * 2 ^ (k - e)) ((n + m) * 2 ^ (k - e)) (e + 3)
            (base ∙ sym (whole_smaller n e k less)) (top ∙ sym (whole_smaller (n + m) e k less));
      }
]

-- ---- units

pub granule-some : (size : ℕ) → 0 < granule_of (from_zero size)
granule-some size = elim (cases_lt size 4096) [
  | inl short ↦ let one = granule_of-short (from_zero size) (omega arith) in omega (arith, one)
  | inr long ↦
      let is = granule_of-long (from_zero size) (omega arith) in
      let some = pow_pos (exponent_of (from_zero size) + 3) in
      omega (arith, is, some)
]

-- with alignment 1 the unit is the granule
pub unit-one : (size : ℕ) → unit_of One size ≡ granule_of (from_zero size)
unit-one size = let some = granule-some size in omega arith

pub padded-one : (size : ℕ) → padded_size_for One size ≡ padded_size size
padded-one size = ap (λ (n : ℕ). div_ceil size n * n) (unit-one size)

-- with alignment 16 the unit is 16 of a size of at most 8,184, or else the granule, which is a multiple of 16
pub record IsFine (size : ℕ) : Type 0 where
  pub unit : unit_of Sixteen size ≡ 16
  pub small : size ≤ 8184

pub record IsGrown (size : ℕ) : Type 0 where
  pub unit : unit_of Sixteen size ≡ granule_of (from_zero size)
  pub multiple : granule_of (from_zero size) % 16 ≡ 0

-- the size touches at most 1,023 granules
few_granules : (size : ℕ) → size ≤ 2 ^ 64 → 4096 ≤ size
    → div_ceil size (2 ^ (exponent_of (from_zero size) + 3)) ≤ 1023
few_granules size fits long =
    let g : ℕ = 2 ^ (exponent_of (from_zero size) + 3) in
    let least = exponent_of-long (from_zero size) (omega arith) (omega arith) in
    let zero_is : 0 + size ≡ size = omega arith in
    let touches : granule_count (from_zero size) g ≡ div_ceil size g - 0 / g =
    ap (λ (x : ℕ). div_ceil x g - 0 / g) zero_is in
    let none = zero-div g in
    omega (arith, least.few, touches, none)

by_exponent : (size k : ℕ) → granule_of (from_zero size) ≡ 2 ^ (k + 3) → div_ceil size (2 ^ (k + 3)) ≤ 1023
    → IsFine size ⊎ IsGrown size
by_exponent size zero is few =
    let eight : granule_of (from_zero size) ≡ 8 = is in
    let covers = le-div_ceil size 8 (omega arith) in
    inl (record { unit = omega (arith, eight); small = omega (arith, few, covers) })
by_exponent size (suc k) is few =
    let s : suc k + 3 ≡ 4 + k = omega arith in
    let split : 2 ^ (suc k + 3) ≡ 16 * 2 ^ k = ap (λ (n : ℕ). 2 ^ n) s ∙ pow-add 2 4 k in
    let some = pow_pos k in
    inr (record {
      unit = omega (arith, is, split, some);
      multiple = ap (λ (n : ℕ). n % 16) (is ∙ split) ∙ mul-mod_right 16 (2 ^ k);
    })

pub fine_or_grown : (size : ℕ) → size ≤ 2 ^ 64 → IsFine size ⊎ IsGrown size
fine_or_grown size fits = elim (cases_lt size 4096) [
  | inl short ↦
      let one = granule_of-short (from_zero size) (omega arith) in
      inl (record { unit = omega (arith, one); small = omega (arith, short) })
  | inr long ↦
      by_exponent size (exponent_of (from_zero size)) (granule_of-long (from_zero size) (omega arith))
      (few_granules size fits long)
]

padded-grown : (size : ℕ) → IsGrown size → padded_size_for Sixteen size ≡ padded_size size
padded-grown size grown = ap (λ (n : ℕ). div_ceil size n * n) grown.unit

padded-fine : (size : ℕ) → IsFine size → padded_size_for Sixteen size ≡ div_ceil size 16 * 16
padded-fine size fine = ap (λ (n : ℕ). div_ceil size n * n) fine.unit

-- a unit of alignment 16 is a multiple of 16
pub unit-sixteen : (size : ℕ) → size ≤ 2 ^ 64 → unit_of Sixteen size % 16 ≡ 0
unit-sixteen size fits = elim (fine_or_grown size fits) [
  | inl fine ↦ ap (λ (n : ℕ). n % 16) fine.unit
  | inr grown ↦ ap (λ (n : ℕ). n % 16) grown.unit ∙ grown.multiple
]

-- and so is each multiple of the unit
pub multiple_of_sixteen : (size number : ℕ) → size ≤ 2 ^ 64 → number % unit_of Sixteen size ≡ 0 → number % 16 ≡ 0
multiple_of_sixteen size number fits multiple =
    let unit : ℕ = unit_of Sixteen size in
    let count : ℕ = number / unit in
    let split : unit * count + number % unit ≡ number = div-add-mod number unit in
    let is : number ≡ unit * count = omega (arith, split, multiple) in
    let none : 0 * (count % 16) ≡ 0 = omega arith in
    ap (λ (n : ℕ). n % 16) is ∙ mul-mod unit count 16
    ∙ ap (λ (n : ℕ). (n * (count % 16)) % 16) (unit-sixteen size fits) ∙ ap (λ (n : ℕ). n % 16) none

-- ---- padded sizes

pub unit-some : (align : Align) (size : ℕ) → 0 < unit_of align size
unit-some One size = omega arith
unit-some Sixteen size = omega arith

-- a padded size is at least the size
pub padded_for-enough : (align : Align) (size : ℕ) → size ≤ padded_size_for align size
padded_for-enough align size = le-div_ceil size (unit_of align size) (unit-some align size)

-- how much a size is padded
pub record IsPaddedFor (align : Align) (size : ℕ) : Type 0 where
  pub enough : size ≤ padded_size_for align size
  pub little : padded_size_for align size ≤ size + size / 512 + (align_bytes align - 1)
  pub fits : padded_size_for align size ≤ 2 ^ 64

pub padded_for_law : (align : Align) (size : ℕ) → size ≤ 2 ^ 64 → IsPaddedFor align size
padded_for_law One size fits =
    let padding = padded_law size fits in
    let is = padded-one size in
    record {
      enough = padded_for-enough One size;
      little = omega (arith, is, padding.little);
      fits = omega (arith, is, padding.fits);
    }
padded_for_law Sixteen size fits = elim (fine_or_grown size fits) [
  | inl fine ↦
      let is = padded-fine size fine in
      let near = div_ceil-lt size 16 (omega arith) in
      record {
        enough = padded_for-enough Sixteen size;
        little = omega (arith, is, near);
        fits = omega (arith, is, near, fine.small);
      }
  | inr grown ↦
      let padding = padded_law size fits in
      let is = padded-grown size grown in
      record {
        enough = padded_for-enough Sixteen size;
        little = omega (arith, is, padding.little);
        fits = omega (arith, is, padding.fits);
      }
]

-- if the unit is the granule, the law of granules says it
sound_along : (start size unit padded : ℕ) → size ≤ 2 ^ 64 → unit ≡ granule_of (from_zero size)
    → padded ≡ padded_size size → start % unit ≡ 0 → IsSpan (span_from start padded)
    → IsSound (span_from start padded)
sound_along start size unit padded fits unit_is padded_is multiple is_span =
    subst (λ (n : ℕ). IsSound (span_from start n)) (sym padded_is)
    (padded-sound start size fits (ap (λ (n : ℕ). start % n) (sym unit_is) ∙ multiple)
    (subst (λ (n : ℕ). IsSpan (span_from start n)) padded_is is_span))

-- a span that begins at a multiple of the unit of a size, and has the padded size, is sound
pub padded_for-sound : (align : Align) (start size : ℕ) → size ≤ 2 ^ 64 → start % unit_of align size ≡ 0
    → IsSpan (span_from start (padded_size_for align size)) → IsSound (span_from start (padded_size_for align size))
padded_for-sound One start size fits multiple is_span =
    sound_along start size (unit_of One size) (padded_size_for One size) fits (unit-one size) (padded-one size) multiple
    is_span
padded_for-sound Sixteen start size fits multiple is_span = elim (fine_or_grown size fits) [
  | inl fine ↦
      let is = padded-fine size fine in
      let few = div_ceil-le size 16 1023 (omega arith) (omega (arith, fine.small)) in
      let split = div-add-mod' start 16 in
      let none : start % 16 ≡ 0 = ap (λ (n : ℕ). start % n) (sym fine.unit) ∙ multiple in
      let base : start ≡ start / 16 * 16 = omega (arith, split, none) in
      let top : start + padded_size_for Sixteen size ≡ (start / 16 + div_ceil size 16) * 16 = omega (arith, base, is) in
      units-sound (span_from start (padded_size_for Sixteen size)) (start / 16)
      (div_ceil size 16) 1 few is_span base top
  | inr grown ↦
      sound_along start size (unit_of Sixteen size) (padded_size_for Sixteen size) fits grown.unit
      (padded-grown size grown) multiple is_span
]

-- it ends at a multiple of the unit too
pub ends_at_unit : (align : Align) (start size : ℕ) → start % unit_of align size ≡ 0
    → (start + padded_size_for align size) % unit_of align size ≡ 0
ends_at_unit align start size multiple =
    add-mul-mod_self_right start (div_ceil size (unit_of align size)) (unit_of align size) ∙ multiple
