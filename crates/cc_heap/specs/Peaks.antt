-- The peaks of an event alone: those of a heap whose peaks were forgotten before it.
use Rattle.std.specs.Prelude.{◌≡◌, ◌+◌, List}
use Rattle.cc_heap.specs.declared.totals.Totals.{Totals}
use Rattle.cc_heap.specs.Heap.{Heap}
use Rattle.cc_heap.specs.Run.{Moment, PassesEvent, greatest, usage_in}

-- The totals with no peaks of bytes.
abbrev pub totals_without_peaks : Totals → Totals
totals_without_peaks totals = record totals { peak_live = 0; peak_quarantine = 0; peak_held = 0 }

-- The heap with no peaks of bytes. No event depends on them.
abbrev pub without_peaks : Heap → Heap
without_peaks heap = record heap { totals = totals_without_peaks heap.totals }

-- HasPeaks holds if the heap `old`, without its peaks, passes some states on its way to `new`, and each peak of
-- bytes is the largest value over these states.
pub record HasPeaks (old new : Heap) : Type 0 where
  pub moments : List Moment
  pub passes : PassesEvent (without_peaks old) moments new
  pub live : new.totals.peak_live ≡ greatest (λ moment. (usage_in moment).live) moments
  pub quarantine : new.totals.peak_quarantine ≡ greatest (λ moment. (usage_in moment).quarantine) moments
  pub held : new.totals.peak_held ≡ greatest (λ moment. (usage_in moment).live + (usage_in moment).quarantine) moments
