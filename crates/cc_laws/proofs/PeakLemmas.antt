-- The peaks of an event are the largest values over its states.
use Rattle.std.proofs.Common.{ℕ, max, ◌≡◌, ◌⊎◌, ◌+◌, List, [], ◌∷◌, arith, refl, ◌∙◌, sym, ap, inl, inr}
use Rattle.cc_heap.specs.declared.event.Event.{Event}
use Rattle.cc_heap.specs.declared.outcome.Outcome.{Outcome}
use Rattle.cc_heap.specs.declared.totals.Totals.{Totals}
use Rattle.cc_heap.specs.declared.usage.Usage.{Usage}
use Rattle.cc_heap.specs.Memory.{usage_of}
use Rattle.cc_heap.specs.Heap.{Heap}
use Rattle.cc_heap.specs.Events.{IsEvent}
use Rattle.cc_heap.specs.Run.{IsFreeing, IsKeeping, IsMaking, IsSweeping, Moment, PassesEvent, greatest, usage_in}
use Rattle.cc_heap.specs.Peaks.{HasPeaks, without_peaks}
use Rattle.cc_laws.proofs.HistoryLemmas.{event as event_passes, max_more}

-- a number of a usage that a peak is of
record IsPeak (value : Usage → ℕ) (peak : Totals → ℕ) : Type 0 where
  makes : (old : Heap) (moment : Moment) (next : Heap) → IsMaking old moment next → peak next.totals ≡ max (peak old.totals) (value (usage_of next.memory))
  frees : (old : Heap) (moment : Moment) (next : Heap) → IsFreeing old moment next → peak next.totals ≡ max (peak old.totals) (value (usage_of next.memory))
  sweeps : (old : Heap) (moment : Moment) (next : Heap) → IsSweeping old moment next → peak next.totals ≡ max (peak old.totals) (value (usage_of next.memory))
  keeps : (old : Heap) (moment : Moment) (next : Heap) → IsKeeping old moment next → peak next.totals ≡ max (peak old.totals) (value (usage_of next.memory))

-- the heap after a change has the state after it
memory_is : (old : Heap) (moment : Moment) (next : Heap)
    → IsMaking old moment next ⊎ (IsFreeing old moment next ⊎ (IsSweeping old moment next ⊎ IsKeeping old moment next)) → usage_of next.memory ≡ usage_in moment
memory_is old moment next (inl is) = sym (ap usage_in is.is)
memory_is old moment next (inr (inl is)) = sym (ap usage_in is.is)
memory_is old moment next (inr (inr (inl is))) = sym (ap usage_in is.is)
memory_is old moment next (inr (inr (inr is))) = sym (ap usage_in is.is)

step : (value : Usage → ℕ) (peak : Totals → ℕ) → IsPeak value peak → (old : Heap) (moment : Moment) (next : Heap)
    → IsMaking old moment next ⊎ (IsFreeing old moment next ⊎ (IsSweeping old moment next ⊎ IsKeeping old moment next))
    → peak next.totals ≡ max (peak old.totals) (value (usage_of next.memory))
step value peak is_peak old moment next (inl is) = is_peak.makes old moment next is
step value peak is_peak old moment next (inr (inl is)) = is_peak.frees old moment next is
step value peak is_peak old moment next (inr (inr (inl is))) = is_peak.sweeps old moment next is
step value peak is_peak old moment next (inr (inr (inr is))) = is_peak.keeps old moment next is

greatest_more : (value : Usage → ℕ) (moment : Moment) (moments : List Moment)
    → max (value (usage_in moment)) (greatest (λ (m : Moment). value (usage_in m)) moments) ≡ greatest (λ (m : Moment). value (usage_in m)) (moment ∷ moments)
unfolding greatest
greatest_more value moment moments = refl

greatest_none : (value : Usage → ℕ) → greatest (λ (m : Moment). value (usage_in m)) [] ≡ 0
unfolding greatest
greatest_none value = refl

passed : (value : Usage → ℕ) (peak : Totals → ℕ) → IsPeak value peak → (old : Heap) (moments : List Moment) (new : Heap) → PassesEvent old moments new
    → peak new.totals ≡ max (peak old.totals) (greatest (λ (m : Moment). value (usage_in m)) moments)
passed value peak is_peak old [] new same = ap (λ (h : Heap). peak h.totals) same ∙ omega (arith, greatest_none value)
passed value peak is_peak old (moment ∷ moments) new (next, change, rest) =
    passed value peak is_peak next moments new rest
    ∙ ap (λ (n : ℕ). max n (greatest (λ (m : Moment). value (usage_in m)) moments))
    (step value peak is_peak old moment next change ∙ ap (λ (u : Usage). max (peak old.totals) (value u)) (memory_is old moment next change))
    ∙ max_more (peak old.totals) (value (usage_in moment)) (greatest (λ (m : Moment). value (usage_in m)) moments)
    ∙ ap (max (peak old.totals)) (greatest_more value moment moments)

live_peak : IsPeak (λ (u : Usage). u.live) (λ (t : Totals). t.peak_live)
live_peak = record {
  makes = λ old moment next is. ap (λ (h : Heap). h.totals.peak_live) is.makes.is_new ∙ ap (λ (h : Heap). max old.totals.peak_live (usage_of h.memory).live) (sym is.makes.is_new);
  frees = λ old moment next is. ap (λ (h : Heap). h.totals.peak_live) is.frees.is_new ∙ ap (λ (h : Heap). max old.totals.peak_live (usage_of h.memory).live) (sym is.frees.is_new);
  sweeps = λ old moment next is. ap (λ (h : Heap). h.totals.peak_live) is.sweeps ∙ ap (λ (h : Heap). max old.totals.peak_live (usage_of h.memory).live) (sym is.sweeps);
  keeps = λ old moment next is. ap (λ (h : Heap). h.totals.peak_live) is.keeps.is_new ∙ ap (λ (h : Heap). max old.totals.peak_live (usage_of h.memory).live) (sym is.keeps.is_new);
}

quarantine_peak : IsPeak (λ (u : Usage). u.quarantine) (λ (t : Totals). t.peak_quarantine)
quarantine_peak = record {
  makes = λ old moment next is. ap (λ (h : Heap). h.totals.peak_quarantine) is.makes.is_new ∙ ap (λ (h : Heap). max old.totals.peak_quarantine (usage_of h.memory).quarantine) (sym is.makes.is_new);
  frees = λ old moment next is. ap (λ (h : Heap). h.totals.peak_quarantine) is.frees.is_new ∙ ap (λ (h : Heap). max old.totals.peak_quarantine (usage_of h.memory).quarantine) (sym is.frees.is_new);
  sweeps = λ old moment next is. ap (λ (h : Heap). h.totals.peak_quarantine) is.sweeps ∙ ap (λ (h : Heap). max old.totals.peak_quarantine (usage_of h.memory).quarantine) (sym is.sweeps);
  keeps = λ old moment next is. ap (λ (h : Heap). h.totals.peak_quarantine) is.keeps.is_new ∙ ap (λ (h : Heap). max old.totals.peak_quarantine (usage_of h.memory).quarantine) (sym is.keeps.is_new);
}

held_peak : IsPeak (λ (u : Usage). u.live + u.quarantine) (λ (t : Totals). t.peak_held)
held_peak = record {
  makes = λ old moment next is. ap (λ (h : Heap). h.totals.peak_held) is.makes.is_new ∙ ap (λ (h : Heap). max old.totals.peak_held ((usage_of h.memory).live + (usage_of h.memory).quarantine))
      (sym is.makes.is_new);
  frees = λ old moment next is. ap (λ (h : Heap). h.totals.peak_held) is.frees.is_new ∙ ap (λ (h : Heap). max old.totals.peak_held ((usage_of h.memory).live + (usage_of h.memory).quarantine))
      (sym is.frees.is_new);
  sweeps = λ old moment next is. ap (λ (h : Heap). h.totals.peak_held) is.sweeps ∙ ap (λ (h : Heap). max old.totals.peak_held ((usage_of h.memory).live + (usage_of h.memory).quarantine))
      (sym is.sweeps);
  keeps = λ old moment next is. ap (λ (h : Heap). h.totals.peak_held) is.keeps.is_new ∙ ap (λ (h : Heap). max old.totals.peak_held ((usage_of h.memory).live + (usage_of h.memory).quarantine))
      (sym is.keeps.is_new);
}

from_none : (n : ℕ) → max 0 n ≡ n
from_none n = omega arith

-- ---- the law

pub has_peaks : (old : Heap) (event : Event) (outcome : Outcome) (new : Heap) → IsEvent (without_peaks old) event outcome new → HasPeaks old new
has_peaks old event outcome new is =
    let history = event_passes (without_peaks old) new event outcome is in
    record {
      moments = history.moments;
      passes = history.passes;
      live = passed (λ (u : Usage). u.live) (λ (t : Totals). t.peak_live) live_peak (without_peaks old) history.moments new history.passes ∙ from_none _;
      quarantine = passed (λ (u : Usage). u.quarantine) (λ (t : Totals). t.peak_quarantine) quarantine_peak (without_peaks old) history.moments new history.passes ∙ from_none _;
      held = passed (λ (u : Usage). u.live + u.quarantine) (λ (t : Totals). t.peak_held) held_peak (without_peaks old) history.moments new history.passes ∙ from_none _;
    }
