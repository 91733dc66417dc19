-- The place of an object: it begins at a multiple of the unit of its size, and of the requested alignment.
use Rattle.std.proofs.Common.{ℕ, Bool, true, false, nat_eq, max, ◌≡◌, ◌+◌, ◌-◌, ◌*◌, ◌/◌, ◌%◌, ◌<◌, ◌≤◌, ◌^◌, List, Option, Some, None, IfSome, arith, refl, subst, ◌∙◌, sym, ap, inl, inr}
use Rattle.std.specs.Prelude.{◌&&◌}
use Rattle.std.specs.Int.{IsPowerOfTwo}
use Rattle.std.proofs.Math.Nat.{div-add-mod, mul-mod_right}
use Rattle.std.proofs.Math.Pow.{pow_mono}
use Rattle.std.proofs.lemmas.Bool.{cases_lt}
use Rattle.std.proofs.lemmas.Bool.Decides.{nat_tests}
use Rattle.std.proofs.lemmas.Nat.{pow-add}
use Rattle.cc_bounds.specs.declared.align.Align.{Align}
use Rattle.cc_bounds.specs.declared.align.Align.TheVariants.{One, Sixteen}
use Rattle.cc_bounds.specs.declared.span.Span.{Span}
use Rattle.cc_bounds.specs.Align.{align_bytes}
use Rattle.cc_bounds.specs.Span.{IsSpan, IsWithin, from_zero, length_of, span_from}
use Rattle.cc_bounds.specs.Granule.{IsSound as IsSoundSpan, exponent_of, granule_of}
use Rattle.cc_bounds.proofs.ComputingLemmas.{granule_of-long, granule_of-short}
use Rattle.cc_placer.specs.Placement.{HasNoPlace, IsApartFrom, IsPlacement}
use Rattle.cc_placer.specs.PlacerState.{IsPoolSpan}
use Rattle.cc_placer.specs.Align.{padded_size_for, unit_of}
use Rattle.cc_placer.proofs.AlignLemmas.{ends_at_unit, padded_for-sound, padded_for_law}
use Rattle.cc_placer.proofs.UnitLemmas.{IsUnit-unit_of}
use Rattle.cc_heap.specs.Memory.{IsExact, start_unit}
use Rattle.cc_heap.specs.HeapState.{IsRoomFor}
use Rattle.cc_heap.specs.Reallocation.{can_take}

-- ---- powers of two

-- the larger of two powers of two is one
larger_power : (one other : ℕ) → IsPowerOfTwo one → IsPowerOfTwo other → IsPowerOfTwo (max one other)
larger_power one other (i, one_is) (j, other_is) = elim (cases_lt one other) [
  | inl less ↦ (j, omega (arith, other_is, less))
  | inr not ↦ (i, omega (arith, one_is, not))
]

-- a multiple of a multiple
multiple_of_factor : (number one factor : ℕ) → number % (one * factor) ≡ 0 → number % one ≡ 0
multiple_of_factor number one factor multiple =
    let times : ℕ = number / (one * factor) in
    let split : one * factor * times + number % (one * factor) ≡ number = div-add-mod number (one * factor) in
    let same : one * factor * times ≡ one * (factor * times) = omega arith in
    let is : number ≡ one * (factor * times) = omega (arith, split, multiple, same) in
    ap (λ (n : ℕ). n % one) is ∙ mul-mod_right one (factor * times)

-- a multiple of the larger of two powers of two is one of both
pub multiple_of_larger : (number one other : ℕ) → IsPowerOfTwo one → IsPowerOfTwo other
    → number % max one other ≡ 0 → number % one ≡ 0
multiple_of_larger number one other (i, one_is) (j, other_is) multiple = elim (cases_lt j i) [
  | inl below ↦
      let le : 2 ^ j ≤ 2 ^ i = pow_mono (omega (arith, below)) in
      let is : max one other ≡ one = omega (arith, one_is, other_is, le) in
      ap (λ (n : ℕ). number % n) (sym is) ∙ multiple
  | inr not ↦
      let s : i + (j - i) ≡ j = omega (arith, not) in
      let split : 2 ^ j ≡ 2 ^ i * 2 ^ (j - i) = ap (λ (n : ℕ). 2 ^ n) (sym s) ∙ pow-add 2 i (j - i) in
      let le : 2 ^ i ≤ 2 ^ j = pow_mono (omega (arith, not)) in
      let is : max one other ≡ 2 ^ i * 2 ^ (j - i) = omega (arith, one_is, other_is, le, split) in
      ap (λ (n : ℕ). number % n) one_is
      ∙ multiple_of_factor number (2 ^ i) (2 ^ (j - i)) (ap (λ (n : ℕ). number % n) (sym is) ∙ multiple)
]

granule-power : (size : ℕ) → IsPowerOfTwo (granule_of (from_zero size))
granule-power size = elim (cases_lt size 4096) [
  | inl short ↦ (0, granule_of-short (from_zero size) (omega (arith, short)))
  | inr long ↦ (exponent_of (from_zero size) + 3, granule_of-long (from_zero size) (omega (arith, long)))
]

align-power : (align : Align) → IsPowerOfTwo (align_bytes align)
align-power One = (0, refl)
align-power Sixteen = (4, refl)

unit-power : (align : Align) (size : ℕ) → IsPowerOfTwo (unit_of align size)
unit-power align size =
    larger_power (granule_of (from_zero size)) (align_bytes align) (granule-power size) (align-power align)

max-flip : (one other : ℕ) → max one other ≡ max other one
max-flip one other = omega arith

-- ---- the place that was found

-- the bytes of an object at its placement in a pool
pub record IsFound (align : Align) (pool : Span) (spans : List Span) (requested size : ℕ) (span : Span) : Type 0 where
  pub placement : IsPlacement pool spans (padded_size_for align size) (start_unit align requested size) span.base
  pub top : span.top ≡ span.base + padded_size_for align size
  pub not_empty : span.base < span.top
  pub within : IsWithin span pool
  pub apart : IsApartFrom spans span
  pub exact : IsExact align (record { size = size; align = requested; span = span })
  pub in_pool : pool.base ≤ span.top
  pub end_fits : span.top - pool.base ≤ 2 ^ 64

-- an object of this size has exact bounds in bytes that it can take
pub exact_in : (align : Align) (requested size : ℕ) (span : Span) → IsSpan span → IsPowerOfTwo requested → 0 < size → size < 2 ^ 64
    → length_of span ≡ padded_size_for align size → span.base % start_unit align requested size ≡ 0
    → IsExact align (record { size = size; align = requested; span = span })
exact_in align requested size span is_span power some fits long starts =
    let padding = padded_for_law align size (omega (arith, fits)) in
    let top : span.top ≡ span.base + padded_size_for align size = omega (arith, long, is_span.in_order) in
    let at : span_from span.base (padded_size_for align size) ≡ span =
    λ i. record { base = span.base; top = sym top i } in
    let unit = unit-power align size in
    let multiple : span.base % unit_of align size ≡ 0 =
    multiple_of_larger span.base (unit_of align size) requested unit power starts in
    record {
      bounds = record {
        some = some;
        unit = unit_of align size;
        is_unit = IsUnit-unit_of align size (omega (arith, fits));
        aligned = multiple;
        ends = ap (λ (n : ℕ). n % unit_of align size) top ∙ ends_at_unit align span.base size multiple;
        is_span = is_span;
        sound = subst IsSoundSpan at (padded_for-sound align span.base size (omega (arith, fits)) multiple (subst IsSpan (sym at) is_span));
        padded = omega (arith, top);
        at_least = omega (arith, top, padding.enough);
        at_most = omega (arith, top, padding.little);
      };
      aligned = multiple_of_larger span.base requested (unit_of align size) power unit
          (ap (λ (n : ℕ). span.base % n) (max-flip requested (unit_of align size)) ∙ starts);
      size_fits = fits;
    }

found_at : (align : Align) (pool : Span) (spans : List Span) (requested size : ℕ) (span : Span)
    → IsPoolSpan pool → IsPowerOfTwo requested → 0 < size → size < 2 ^ 64
    → IsPlacement pool spans (padded_size_for align size) (start_unit align requested size) span.base
    → span.top ≡ span.base + padded_size_for align size → IsFound align pool spans requested size span
found_at align pool spans requested size span is_pool power some fits placement top =
    let padding = padded_for_law align size (omega (arith, fits)) in
    let at : span_from span.base (padded_size_for align size) ≡ span =
    λ i. record { base = span.base; top = sym top i } in
    let within : IsWithin (span_from span.base (padded_size_for align size)) pool = placement.place.in_pool in
    let is_span : IsSpan (span_from span.base (padded_size_for align size)) = record {
      in_order = omega arith;
      base_fits = omega (arith, within.to_top, is_pool.fits, padding.enough, some);
      top_fits = omega (arith, within.to_top, is_pool.fits);
    } in
    record {
      placement = placement;
      top = top;
      not_empty = omega (arith, padding.enough, top, some);
      within = subst (λ (s : Span). IsWithin s pool) at within;
      apart = subst (IsApartFrom spans) at placement.place.apart;
      exact = exact_in align requested size span (subst IsSpan at is_span) power some fits (omega (arith, top)) placement.place.aligned;
      in_pool = omega (arith, within.from_base, top);
      end_fits = omega (arith, within.to_top, is_pool.fits, top);
    }

pub found : (placer_pool : Option Span) (align : Align) (pool : Span) (spans : List Span) (requested size : ℕ)
    (result : Option Span) (span : Span)
    → placer_pool ≡ Some pool → IsPoolSpan pool → result ≡ Some span
    → IfSome placer_pool (λ p. IsRoomFor align requested p spans size result)
    → IsPowerOfTwo requested → 0 < size → size < 2 ^ 64
    → IsFound align pool spans requested size span
found placer_pool align pool spans requested size result span pool_is is_pool result_is room power some fits =
    let (placement, top) : IsRoomFor align requested pool spans size (Some span) = rw (pool_is, result_is) at room in
    found_at align pool spans requested size span is_pool power some fits placement top

-- and none
pub no_room : (placer_pool : Option Span) (align : Align) (pool : Span) (spans : List Span) (requested size : ℕ)
    (result : Option Span)
    → placer_pool ≡ Some pool → result ≡ None
    → IfSome placer_pool (λ p. IsRoomFor align requested p spans size result)
    → HasNoPlace pool spans (padded_size_for align size) (start_unit align requested size)
no_room placer_pool align pool spans requested size result pool_is result_is room = rw (pool_is, result_is) at room

-- ---- bytes that an object can take

both_true : (one other : Bool) → (one && other) ≡ true → (one ≡ true) × (other ≡ true)
both_true true other is = (refl, is)
both_true false other is = cc is

same_number : (one other : ℕ) → nat_eq one other ≡ true → one ≡ other
same_number one other is = grind (arith, nat_tests)

-- the bytes are as many as the padded size, and begin at a multiple of the unit
pub takes_parts : (align : Align) (requested size : ℕ) (span : Span) → can_take align requested size span ≡ true
    → (length_of span ≡ padded_size_for align size) × (span.base % start_unit align requested size ≡ 0)
takes_parts align requested size span takes =
    let parts = both_true (nat_eq (length_of span) (padded_size_for align size)) (nat_eq (span.base % start_unit align requested size) 0) takes in
    (same_number (length_of span) (padded_size_for align size) parts.0, same_number (span.base % start_unit align requested size) 0 parts.1)
