-- The levels of the events of a trace, and the chart that shows them.
use Rattle.std.specs.Prelude.{◌≡◌, ◌+◌, max, List, [], ◌∷◌, ◌++◌}
use Rattle.cc_heap.specs.declared.levels.Levels.{Levels}
use Rattle.cc_heap.specs.Chart.{IsChartOf}
use Rattle.cc_heap.specs.declared.event.Event.{Event}
use Rattle.cc_heap.specs.declared.outcome.Outcome.{Outcome}
use Rattle.cc_heap.specs.Events.{IsEvent}
use Rattle.cc_heap.specs.Heap.{Heap}
use Rattle.cc_heap.specs.Memory.{usage_of}
use Rattle.cc_heap.specs.Peaks.{without_peaks}
use Rattle.cc_heap.specs.Run.{Moment, PassesEvent, greatest, usage_in}
use Rattle.cc_heap.specs.Totals.{capped_sum}
use Rattle.cc_replay.specs.declared.reading.Progress.TheVariants.{Running}
use Rattle.cli_replay.specs.Charting.{Charted}

-- HasLevels holds if the heap `old` passes some states on its way to `new`. The levels are the largest live,
-- quarantined and held bytes over these states and `new`, and the high-water mark of `new`.
pub record HasLevels (old new : Heap) (levels : Levels) : Type 0 where
  pub moments : List Moment
  pub passes : PassesEvent old moments new
  pub live : levels.live ≡ max (greatest (λ moment. (usage_in moment).live) moments) (usage_of new.memory).live
  pub quarantine : levels.quarantine
      ≡ max (greatest (λ moment. (usage_in moment).quarantine) moments) (usage_of new.memory).quarantine
  pub held : levels.held
      ≡ max (greatest (λ moment. (usage_in moment).live + (usage_in moment).quarantine) moments)
      (capped_sum ((usage_of new.memory).live + (usage_of new.memory).quarantine))
  pub high : levels.high ≡ new.totals.high

-- RunsWithLevels holds if the events turn the heap `old` into `new`, and have these levels, one for each. The
-- peaks are forgotten before each event, and may be after the last.
abbrev pub RunsWithLevels : Heap → List Event → List Levels → Heap → Type 0
RunsWithLevels old [] [] new = without_peaks new ≡ without_peaks old
RunsWithLevels old (event ∷ events) (levels ∷ others) new =
    (outcome : Outcome) × (next : Heap) × IsEvent (without_peaks old) event outcome next
    × HasLevels (without_peaks old) next levels × RunsWithLevels next events others new
RunsWithLevels old [] (levels ∷ others) new = ⊥
RunsWithLevels old (event ∷ events) [] new = ⊥

-- ShowsRun holds if the chart shows the levels of the first of the events, which lead from the heap `old` to that of
-- the replay. If lines are still taken, no event is left.
pub record ShowsRun (old : Heap) (events : List Event) (new : Charted) : Type 0 where
  pub taken : List Event
  pub left : List Event
  pub in_order : events ≡ taken ++ left
  pub all : new.replay.progress ≡ Running → left ≡ []
  pub levels : List Levels
  pub runs : RunsWithLevels old taken levels new.replay.run.heap
  pub shows : IsChartOf levels new.chart
