-- A smaller object fits where a larger one does.
use Rattle.std.proofs.Common.{◌≡◌, ◌⊎◌, ℕ, zero, suc, ◌+◌, ◌-◌, ◌*◌, ◌<◌, ◌≤◌, ◌/◌, ◌%◌, ◌^◌, List, ◌∙◌, ap, arith, subst, sym, inl, inr}
use Rattle.std.specs.Int.{div_ceil}
use Rattle.std.proofs.Math.Nat.{div-add-mod', mul-mod_left, mul-le-mul_right}
use Rattle.std.proofs.lemmas.Nat.{pow_pos}
use Rattle.std.proofs.lemmas.Bool.{cases_lt}
use Rattle.cc_bounds.specs.declared.span.Span.{Span}
use Rattle.cc_bounds.specs.Span.{from_zero}
use Rattle.cc_bounds.specs.Granule.{exponent_of, granule_of}
use Rattle.cc_bounds.proofs.ComputingLemmas.{exponent_of-long, granule_of-long, granule_of-short}
use Rattle.cc_bounds.proofs.GranuleLemmas.{div_ceil-le, granule_count-within, le-div_ceil}
use Rattle.cc_bounds.specs.declared.align.Align.{Align}
use Rattle.cc_bounds.specs.declared.align.Align.TheVariants.{One, Sixteen}
use Rattle.cc_placer.specs.Align.{IsUnit, padded_size_for, rounded_up, unit_of}
use Rattle.cc_placer.specs.Placement.{IsPlace}
use Rattle.cc_placer.proofs.AlignLemmas.{IsFine, IsGrown, fine_or_grown, granule-some, unit-one, unit-sixteen, unit-some, whole_smaller}
use Rattle.cc_placer.proofs.UnitLemmas.{IsUnit-one}

-- the coarse unit is a multiple of the fine one
record IsMultiple (fine coarse : ℕ) : Type 0 where
  factor : ℕ
  is : coarse ≡ factor * fine

-- a larger size has a granule that is a multiple of that of a smaller one
granule-grows : (size larger : ℕ) → size ≤ larger → larger ≤ 2 ^ 64 → IsMultiple (granule_of (from_zero size)) (granule_of (from_zero larger))
granule-grows size larger le fits = elim (cases_lt size 4096) [
  | inl short ↦
      let one = granule_of-short (from_zero size) (omega arith) in
      let scaled = ap (λ (n : ℕ). granule_of (from_zero larger) * n) one in
      record { factor = granule_of (from_zero larger); is = omega (arith, scaled) }
  | inr long ↦
      let e : ℕ = exponent_of (from_zero size) in
      let k : ℕ = exponent_of (from_zero larger) in
      let own = exponent_of-long (from_zero size) (omega arith) (omega arith) in
      let more = exponent_of-long (from_zero larger) (omega arith) (omega (arith, long, le)) in
      let count =
      granule_count-within (from_zero size) (from_zero larger) (2 ^ (k + 3)) (pow_pos (k + 3)) (omega arith) (omega (arith, le)) in
      let few = more.few in
      let less : e ≤ k = own.least k (omega (arith, count, few)) in
      let whole = whole_smaller 1 e k less in
      let fine = granule_of-long (from_zero size) (omega arith) in
      let coarse = granule_of-long (from_zero larger) (omega (arith, long, le)) in
      let scaled = ap (λ (n : ℕ). 2 ^ (k - e) * n) fine in
      record { factor = 2 ^ (k - e); is = omega (arith, whole, scaled, coarse) }
]

-- a positive multiple of sixteen that is at most sixteen is sixteen
sixteen : (n : ℕ) → 0 < n → n ≤ 16 → n % 16 ≡ 0 → n ≡ 16
sixteen n some most multiple = omega arith

-- a positive multiple is at least the number
multiple-le : (fine coarse : ℕ) → 0 < coarse → IsMultiple fine coarse → fine ≤ coarse
multiple-le fine coarse some m = by_factor m.factor m.is
  where
    by_factor : (factor : ℕ) → coarse ≡ factor * fine → fine ≤ coarse
    by_factor zero is = absurd (omega (arith, some, is))
    by_factor (suc more) is = omega (arith, is)

unit-grows : (align : Align) (size larger : ℕ) → size ≤ larger → larger ≤ 2 ^ 64 → IsMultiple (unit_of align size) (unit_of align larger)
unit-grows One size larger le fits =
    let grows = granule-grows size larger le fits in
    let scaled = ap (λ (n : ℕ). grows.factor * n) (unit-one size) in
    let is = grows.is in
    let coarse = unit-one larger in
    record { factor = grows.factor; is = omega (arith, scaled, is, coarse) }
unit-grows Sixteen size larger le fits = by_size (fine_or_grown size (omega (arith, le, fits))) (fine_or_grown larger fits)
  where
    by_size : IsFine size ⊎ IsGrown size → IsFine larger ⊎ IsGrown larger → IsMultiple (unit_of Sixteen size) (unit_of Sixteen larger)
    by_size (inl fine) other =
        let multiple = unit-sixteen larger fits in
        let split = div-add-mod' (unit_of Sixteen larger) 16 in
        let scaled = ap (λ (n : ℕ). unit_of Sixteen larger / 16 * n) fine.unit in
        record { factor = unit_of Sixteen larger / 16; is = omega (arith, multiple, split, scaled) }
    by_size (inr grown) (inr more) =
        let grows = granule-grows size larger le fits in
        let scaled = ap (λ (n : ℕ). grows.factor * n) grown.unit in
        let is = grows.is in
        let coarse = more.unit in
        record { factor = grows.factor; is = omega (arith, scaled, is, coarse) }
    by_size (inr grown) (inl fine) =
        let grows = granule-grows size larger le fits in
        let below = multiple-le (granule_of (from_zero size)) (granule_of (from_zero larger)) (granule-some larger) grows in
        let unit : granule_of (from_zero larger) ≤ 16 = let u = fine.unit in omega arith in
        let is = sixteen (granule_of (from_zero size)) (granule-some size) (omega (arith, below, unit)) grown.multiple in
        record { factor = 1; is = let u = fine.unit in let v = grown.unit in omega (arith, u, v, is) }

smaller_place : (align : Align) (pool : Span) (held : List Span) (size larger start : ℕ) → size ≤ larger → larger ≤ 2 ^ 64
    → IsPlace pool held (padded_size_for align larger) (unit_of align larger) start
    → IsPlace pool held (padded_size_for align size) (unit_of align size) start
smaller_place align pool held size larger start le fits place =
    let fine : ℕ = unit_of align size in
    let coarse : ℕ = unit_of align larger in
    let grows = unit-grows align size larger le fits in
    let factor : ℕ = grows.factor in
    let is : coarse ≡ factor * fine = grows.is in
    let split = div-add-mod' start coarse in
    let aligned = place.aligned in
    let scaled = ap (λ (n : ℕ). start / coarse * n) is in
    let start_is : start ≡ start / coarse * factor * fine = omega (arith, split, aligned, scaled) in
    let count : ℕ = div_ceil larger coarse in
    let covers = le-div_ceil larger coarse (unit-some align larger) in
    let whole : count * coarse ≡ count * factor * fine = let s = ap (λ (n : ℕ). count * n) is in omega (arith, s) in
    let most = div_ceil-le size fine (count * factor) (unit-some align size) (omega (arith, covers, whole, le)) in
    let most' = mul-le-mul_right fine most in
    let shorter : padded_size_for align size ≤ padded_size_for align larger = omega (arith, most', whole) in
    let inside = place.in_pool in
    record {
      aligned = ap (λ (n : ℕ). n % fine) start_is ∙ mul-mod_left (start / coarse * factor) fine;
      in_pool = record { from_base = inside.from_base; to_top = omega (arith, inside.to_top, shorter) };
      apart = λ other has shares. place.apart other has (record {
        byte = shares.byte;
        in_one = record { from_base = shares.in_one.from_base; below_top = omega (arith, shares.in_one.below_top, shorter) };
        in_other = shares.in_other;
      });
    }

-- the law: with any units, which are the computed ones
pub smaller_fits : (align : Align) (pool : Span) (held : List Span) (size larger unit coarse start : ℕ) → size ≤ larger
    → larger ≤ 2 ^ 64 → IsUnit align size unit → IsUnit align larger coarse
    → IsPlace pool held (rounded_up larger coarse) coarse start
    → IsPlace pool held (rounded_up size unit) unit start
smaller_fits align pool held size larger unit coarse start le fits is is_coarse place =
    subst (λ (u : ℕ). IsPlace pool held (rounded_up size u) u start)
    (sym (IsUnit-one align size unit (omega (arith, le, fits)) is))
    (smaller_place align pool held size larger start le fits
    (subst (λ (u : ℕ). IsPlace pool held (rounded_up larger u) u start) (IsUnit-one align larger coarse fits is_coarse) place))
