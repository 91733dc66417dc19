-- Heaps and runs that break the claims of the laws of heaps.
use Rattle.std.proofs.Common.{ℕ, true, false, ◌≡◌, ◌+◌, ◌≤◌, List, [], ◌∷◌, None, length, refl, ap, ◌∙◌, arith}
use Rattle.std.proofs.lemmas.List.Sorted.{IsPermutation-middle, length_permutation}
use Rattle.cc_heap.specs.declared.event.Event.TheVariants.{Clock}
use Rattle.cc_heap.specs.declared.object.Object.{Object}
use Rattle.cc_heap.specs.declared.outcome.Outcome.{Outcome}
use Rattle.cc_heap.specs.declared.settings.Settings.{Settings}
use Rattle.cc_heap.specs.declared.sizes.SizeTotals.{SizeTotals}
use Rattle.cc_heap.specs.declared.totals.Totals.{Totals}
use Rattle.cc_heap.specs.Events.{outcome_of}
use Rattle.cc_heap.specs.Heap.{Heap, empty_heap, no_totals, swept_heap}
use Rattle.cc_heap.specs.Lost.{HasSizes, RunState, RunsNoting, empty_run}
use Rattle.cc_heap.specs.Peaks.{HasPeaks}
use Rattle.cc_heap.specs.Run.{HasTotals, Moment, greatest, usage_in}
use Rattle.cc_heap.specs.Sizes.{no_objects, sizes_after}
use Rattle.cc_laws.specs.IgnoresPeaks.{IgnoresPeaks}
use Rattle.cc_laws.specs.OneOutcome.{AreAlike, AreAlikeRuns}

pub total-breaks : (settings : Settings)
    → ¬ HasTotals (Clock 0 ∷ []) (record (empty_heap settings) { totals = record no_totals { sweeps = 1 } })
total-breaks settings has =
    let p = has.passed in
    let same : 1 ≡ 0 = ap (λ (h : Heap). h.totals.sweeps) (p.7.1 ∙ p.5.0) in
    absurd (omega (arith, same))

pub size-breaks : (settings : Settings) → ¬ HasSizes [] (record (empty_run settings) { sizes = record no_objects { made = 1 } ∷ [] })
size-breaks settings has =
    let row = has.rows 0 (omega arith) in
    let none : sizes_after 0 no_objects has.moments ≡ sizes_after 0 no_objects [] = ap (sizes_after 0 no_objects) has.passed.0 in
    let same : 1 ≡ 0 = ap (λ (t : SizeTotals). t.made) (row ∙ none) in
    absurd (omega (arith, same))

-- the largest of smaller values
greatest-le : (value larger : Moment → ℕ) (moments : List Moment) → ((moment : Moment) → value moment ≤ larger moment)
    → greatest value moments ≤ greatest larger moments
unfolding greatest
greatest-le value larger [] le = omega arith
greatest-le value larger (moment ∷ moments) le = omega (arith, le moment, greatest-le value larger moments le)

pub peak-breaks : (settings : Settings) (old : Heap)
    → ¬ HasPeaks old (record (empty_heap settings) { totals = record no_totals { peak_live = 1 } })
peak-breaks settings old has =
    let live : 1 ≡ greatest (λ moment. (usage_in moment).live) has.moments = has.live in
    let held : 0 ≡ greatest (λ moment. (usage_in moment).live + (usage_in moment).quarantine) has.moments = has.held in
    let less = greatest-le (λ moment. (usage_in moment).live) (λ moment. (usage_in moment).live + (usage_in moment).quarantine)
    has.moments (λ moment. omega arith) in
    absurd (omega (arith, live, held, less))

-- ---- heaps that are alike

pub order-alike : (settings : Settings) (one other : Object) → AreAlike
    (record (empty_heap settings) { memory = record { live = (1, one) ∷ (2, other) ∷ []; quarantined = [] } })
    (record (empty_heap settings) { memory = record { live = (2, other) ∷ (1, one) ∷ []; quarantined = [] } })
order-alike settings one other = record {
  settings = refl;
  live = IsPermutation-middle ((1, one) ∷ []) (2, other) [];
  quarantined = refl;
  totals = refl;
}

pub live-breaks : (settings : Settings) (one : Object) → ¬ AreAlike (empty_heap settings)
    (record (empty_heap settings) { memory = record { live = (1, one) ∷ []; quarantined = [] } })
live-breaks settings one alike =
    let same = length_permutation [] ((1, one) ∷ []) alike.live in
    absurd (omega (arith, same))

pub totals-break : (settings : Settings) → ¬ AreAlike (empty_heap settings) (swept_heap (empty_heap settings))
totals-break settings alike =
    let same : 1 ≡ 0 = ap (λ (t : Totals). t.sweeps) alike.totals in
    absurd (omega (arith, same))

pub lost-breaks : (settings : Settings) → ¬ AreAlikeRuns (empty_run settings) (record (empty_run settings) { lost = 1 ∷ [] })
lost-breaks settings alike = let same : true ≡ false = alike.lost 1 in cc

-- ---- outcomes

pub other_heap-breaks : (settings : Settings) (time : ℕ) (outcome : Outcome) → ¬ IgnoresPeaks (empty_heap settings) (Clock time) outcome
    (record (empty_heap settings) { totals = record no_totals { sweeps = 1 } })
other_heap-breaks settings time outcome ignores =
    let none : ignores.other.totals.sweeps ≡ 0 = ap (λ (h : Heap). h.totals.sweeps) ignores.happens.0 in
    let one : ignores.other.totals.sweeps ≡ 1 = ap (λ (h : Heap). h.totals.sweeps) ignores.alike in
    absurd (omega (arith, none, one))

pub outcome-breaks : (old new : Heap) (time : ℕ) → ¬ IgnoresPeaks old (Clock time) (outcome_of true false None) new
outcome-breaks old new time ignores =
    let same : true ≡ false = ap (λ (o : Outcome). o.was_live) ignores.happens.1 in cc

pub run-breaks : (settings : Settings) → ¬ RunsNoting (empty_run settings) [] (record (empty_run settings) { lost = 1 ∷ [] })
run-breaks settings runs =
    let count : 1 ≡ 0 = ap (λ (r : RunState). length r.lost) runs in absurd (omega (arith, count))
