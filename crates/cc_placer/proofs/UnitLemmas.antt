-- Every size has exactly one unit, and of at most 2^64 bytes it is the computed one.
use Rattle.std.proofs.Common.{ℕ, ◌≡◌, ◌*◌, ◌%◌, ◌^◌, ◌<◌, ◌≤◌, refl, sym, subst, ◌∙◌, ap, arith, inl, inr}
use Rattle.std.specs.Prelude.{◌↔◌, max}
use Rattle.std.specs.Int.{div_ceil}
use Rattle.std.proofs.lemmas.Bool.{cases_lt}
use Rattle.cc_bounds.specs.Span.{from_zero}
use Rattle.cc_bounds.specs.Granule.{IsGranule, granule_of}
use Rattle.cc_bounds.specs.Align.{align_bytes}
use Rattle.cc_bounds.specs.declared.align.Align.{Align}
use Rattle.cc_bounds.specs.declared.align.Align.TheVariants.{One, Sixteen}
use Rattle.cc_bounds.specs.Decoding.{ExactlyOne}
use Rattle.cc_bounds.proofs.ComputingLemmas.{from_zero-span, granule_of-is}
use Rattle.cc_bounds.proofs.DecisionLemmas.{length-HasGranule}
use Rattle.cc_bounds.proofs.GranuleLemmas.{granule_same}
use Rattle.cc_placer.specs.Align.{IsUnit, rounded_up, unit_of}
use Rattle.cc_placer.proofs.AlignLemmas.{multiple_of_sixteen}

-- a size has at most one unit
pub IsUnit-same : (align : Align) (size one other : ℕ) → IsUnit align size one → IsUnit align size other → one ≡ other
IsUnit-same align size one other is also =
    let same = granule_same (from_zero size) is.granule also.granule is.is_granule also.is_granule in
    is.is_larger ∙ ap (λ (g : ℕ). max g (align_bytes align)) same ∙ sym also.is_larger

-- the unit of a size
pub record HasUnit (align : Align) (size : ℕ) : Type 0 where
  pub unit : ℕ
  pub is : IsUnit align size unit

-- and at least one
pub size-HasUnit : (align : Align) (size : ℕ) → HasUnit align size
size-HasUnit align size =
    let has = length-HasGranule size in
    record {
      unit = max has.granule (align_bytes align);
      is = record { granule = has.granule; is_granule = has.is; is_larger = refl };
    }

-- the computed unit is the unit
pub IsUnit-unit_of : (align : Align) (size : ℕ) → size ≤ 2 ^ 64 → IsUnit align size (unit_of align size)
IsUnit-unit_of align size fits = record {
  granule = granule_of (from_zero size);
  is_granule = granule_of-is (from_zero size) (from_zero-span size fits);
  is_larger = refl;
}

pub IsUnit-one : (align : Align) (size unit : ℕ) → size ≤ 2 ^ 64 → IsUnit align size unit → unit ≡ unit_of align size
IsUnit-one align size unit fits is = IsUnit-same align size unit (unit_of align size) is (IsUnit-unit_of align size fits)

-- a unit is at least one byte
pub IsUnit-some : (align : Align) (size unit : ℕ) → IsUnit align size unit → 0 < unit
IsUnit-some One size unit is = let e = is.is_larger in omega (arith, e)
IsUnit-some Sixteen size unit is = let e = is.is_larger in omega (arith, e)

-- ---- the laws of units

pub one_unit : (align : Align) (size : ℕ) → ExactlyOne (IsUnit align size)
one_unit align size =
    let has = size-HasUnit align size in
    record {
      value = has.unit;
      has = has.is;
      only = λ other is. IsUnit-same align size other has.unit is has.is;
    }

granule-some : (size granule : ℕ) → IsGranule (from_zero size) granule → 0 < granule
granule-some size granule is = elim (cases_lt size 4096) [
  | inl short ↦ let e = is.small (omega (arith, short)) in omega (arith, e)
  | inr long ↦ let e = (is.large (omega (arith, long))).from_eight in omega (arith, e)
]

-- with alignment 1 the unit is the granule
pub one-granule : (size unit : ℕ) → IsUnit One size unit ↔ IsGranule (from_zero size) unit
one-granule size unit = (
  λ is.
      let some = granule-some size is.granule is.is_granule in
      let e = is.is_larger in
      let same : unit ≡ is.granule = omega (arith, e, some) in
      subst (λ (g : ℕ). IsGranule (from_zero size) g) (sym same) is.is_granule,
  λ is.
      let some = granule-some size unit is in
      record { granule = unit; is_granule = is; is_larger = omega (arith, some) },
)

-- and cc_bounds has the same padded size
pub one-padded : (size unit granule : ℕ) → IsUnit One size unit → IsGranule (from_zero size) granule
    → rounded_up size unit ≡ div_ceil size granule * granule
one-padded size unit granule is is_granule =
    ap (λ (g : ℕ). div_ceil size g * g)
    (granule_same (from_zero size) unit granule ((one-granule size unit).0 is) is_granule)

-- with alignment 16 each multiple of the unit is one of 16
pub sixteen-multiple : (size unit number : ℕ) → size ≤ 2 ^ 64 → IsUnit Sixteen size unit → number % unit ≡ 0
    → number % 16 ≡ 0
sixteen-multiple size unit number fits is multiple =
    multiple_of_sixteen size number fits
    (subst (λ (u : ℕ). number % u ≡ 0) (IsUnit-one Sixteen size unit fits is) multiple)
