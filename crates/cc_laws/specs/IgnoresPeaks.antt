-- Events that do not depend on the peaks of bytes before them.
use Rattle.std.specs.Prelude.{◌≡◌}
use Rattle.cc_heap.specs.declared.event.Event.{Event}
use Rattle.cc_heap.specs.declared.outcome.Outcome.{Outcome}
use Rattle.cc_heap.specs.Events.{IsEvent}
use Rattle.cc_heap.specs.Heap.{Heap}
use Rattle.cc_heap.specs.Peaks.{without_peaks}

-- IgnoresPeaks holds if the event has the same outcome from the heap `old` without its peaks, and leads to a heap
-- that differs from `new` by its peaks of bytes alone.
pub record IgnoresPeaks (old : Heap) (event : Event) (outcome : Outcome) (new : Heap) : Type 0 where
  pub other : Heap
  pub happens : IsEvent (without_peaks old) event outcome other
  pub alike : without_peaks other ≡ without_peaks new
