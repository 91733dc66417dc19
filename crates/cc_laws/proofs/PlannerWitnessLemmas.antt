-- Worked pools and objects that meet the premises of the laws of planners.
use Rattle.std.proofs.Common.{ℕ, zero, suc, ◌≡◌, ◌<◌, ◌≤◌, [], ◌∷◌, refl, ap, subst, arith}
use Rattle.std.proofs.Math.Decide.{dec_lt}
use Rattle.std.specs.Prelude.{All}
use Rattle.std.specs.List.{Contains}
use Rattle.std.proofs.lemmas.List.Sorted.{IsPermutation-append_comm}
use Rattle.cc_bounds.specs.declared.span.Span.{Span}
use Rattle.cc_bounds.specs.declared.align.Align.TheVariants.{Sixteen}
use Rattle.cc_bounds.specs.Span.{IsWithin, SharesByte, span_from}
use Rattle.cc_cap.specs.Capability.{Capability, root_capability}
use Rattle.cc_placer.specs.Align.{IsUnit, rounded_up}
use Rattle.cc_placer.specs.Placement.{HasNoPlace, HaveSameSpans, IsApartFrom, IsPlacement}
use Rattle.cc_plan.specs.PlannedObject.{PlannedObject}
use Rattle.cc_plan.specs.Plan.{HaveBoundsInPool}
use Rattle.cc_machine.specs.Planned.{plan_of}
use Rattle.cc_laws.specs.Witnesses.{with_first_object}
use Rattle.cc_laws.proofs.WitnessLemmas.{sixteen-is_granule}
use Rattle.cc_laws.proofs.DrawingWitnessLemmas.{placed}

-- ---- two held spans

abbrev low : Span
low = span_from 0 16

abbrev high : Span
high = span_from 16 16

pub same : HaveSameSpans (low ∷ high ∷ []) (high ∷ low ∷ [])
same = IsPermutation-append_comm (low ∷ []) (high ∷ [])

-- bytes that share none with them begin above them
above : (start size : ℕ) → 0 < size → IsApartFrom (low ∷ high ∷ []) (span_from start size) → 32 ≤ start
above start size some apart = by_test (dec_lt start 16) (dec_lt start 32)
  where
    by_test : Dec (start < 16) → Dec (start < 32) → 32 ≤ start
    by_test (yes below) other =
        absurd (apart low (0, omega arith, refl)
        (record {
          byte = start;
          in_one = record { from_base = omega arith; below_top = omega (arith, some) };
          in_other = record { from_base = omega arith; below_top = omega (arith, below) };
        }))
    by_test (no past) (yes below) =
        absurd (apart high (1, omega arith, refl)
        (record {
          byte = start;
          in_one = record { from_base = omega arith; below_top = omega (arith, some) };
          in_other = record { from_base = omega (arith, past); below_top = omega (arith, below) };
        }))
    by_test (no past) (no above) = omega (arith, above)

pub placement : IsPlacement (span_from 0 48) (low ∷ high ∷ []) 16 1 32
placement = record {
  place = record {
    aligned = refl;
    in_pool = record { from_base = omega arith; to_top = omega arith };
    apart = apart;
  };
  least = λ other place. above other 16 (omega arith) place.apart;
}
  where
    apart : (other : Span) → Contains (low ∷ high ∷ []) other → ¬ SharesByte (span_from 32 16) other
    apart other (zero, within, is) shares =
        let top : 16 ≡ other.top = ap (λ (s : Span). s.top) is in
        let from = shares.in_one.from_base in
        let to = shares.in_other.below_top in
        omega (arith, top, from, to)
    apart other (suc zero, within, is) shares =
        let top : 32 ≡ other.top = ap (λ (s : Span). s.top) is in
        let from = shares.in_one.from_base in
        let to = shares.in_other.below_top in
        omega (arith, top, from, to)
    apart other (suc (suc k), within, is) shares = omega (arith, within)

pub no_place : HasNoPlace (span_from 0 48) (low ∷ high ∷ []) 17 1
no_place start place =
    let from = above start 17 (omega arith) place.apart in
    let to = place.in_pool.to_top in
    absurd (omega (arith, from, to))

-- ---- an object and its units

pub unit_sixteen : IsUnit Sixteen 16 16
unit_sixteen = record { granule = 1; is_granule = sixteen-is_granule; is_larger = refl }

-- ---- a plan

pub within : HaveBoundsInPool (plan_of with_first_object)
within = record {
  each = λ pool is.
      let is_root : root_capability ≡ pool = (let e = is in cc) in
      subst (λ (cap : Capability). All (λ (object : PlannedObject). IsWithin object.span cap.span) (plan_of with_first_object).objects)
      is_root placed.within;
}

-- ---- a pool that is full

pub full : HasNoPlace low (low ∷ []) (rounded_up 16 1) 1
full start place =
    let to = place.in_pool.to_top in
    absurd (place.apart low (0, omega arith, refl)
    (record {
      byte = start;
      in_one = record { from_base = omega arith; below_top = omega arith };
      in_other = record { from_base = omega arith; below_top = omega (arith, to) };
    }))
