-- The output of `replay --svg`: a chart of the heap of a trace over its events.
use Rattle.std.specs.Prelude.{ℕ, Bool, ◌≡◌, ◌+◌, ◌++◌, codes, decimal, max, List, Option, Some, Result, Ok}
use Rattle.cc_bounds.specs.Align.{align_bytes}
use Rattle.cc_heap.specs.declared.levels.Levels.{Levels}
use Rattle.cc_heap.specs.Chart.{Chart, no_chart, with_event}
use Rattle.cc_heap.specs.ChartDrawing.{chart_text}
use Rattle.cc_heap.specs.Heap.{Heap}
use Rattle.cc_heap.specs.Lost.{empty_run}
use Rattle.cc_heap.specs.Memory.{usage_of}
use Rattle.cc_heap.specs.Peaks.{without_peaks}
use Rattle.cc_heap.specs.Totals.{capped_sum}
use Rattle.cc_heap.specs.declared.settings.Settings.{Settings}
use Rattle.cc_heap.specs.declared.totals.Totals.{Totals}
use Rattle.cc_heap.specs.declared.usage.Usage.{Usage}
use Rattle.cc_heap.specs.declared.event.Event.{Event}
use Rattle.cc_word.specs.declared.refusal.Refusal.{Refusal}
use Rattle.cc_replay.specs.PolicyText.{policy_text}
use Rattle.cc_replay.specs.Replay.{ReplayState, TakesLine, TakesRest, begun, replaying}
use Rattle.cc_replay.specs.Taking.{next_entry}
use Rattle.cc_replay.specs.declared.reading.Progress.{Progress}
use Rattle.cc_replay.specs.declared.reading.Progress.TheVariants.{Running}
use Rattle.cc_replay.specs.declared.reading.Reading.{Reading}

-- A replay, and the chart of its heap.
pub record Charted : Type 0 where
  pub replay : ReplayState
  pub chart : Chart

-- A replay of a heap that held nothing, and a chart of no events.
abbrev pub begun_chart : Settings → Reading → Charted
begun_chart settings reading = record { replay = begun (empty_run settings) reading; chart = no_chart }

-- The replay with no peaks of bytes, so that those after a line are of its event alone.
abbrev pub peakless : ReplayState → ReplayState
peakless state = record state { run = record state.run { heap = without_peaks state.run.heap } }

-- The levels of an event, from the numbers of the heap after it, if the peaks were forgotten before it: the larger of
-- each peak and of the heap's number, and the high-water mark.
abbrev pub levels_of : Totals → Usage → Levels
levels_of totals usage = record {
  live = max totals.peak_live usage.live;
  quarantine = max totals.peak_quarantine usage.quarantine;
  held = max totals.peak_held (capped_sum (usage.live + usage.quarantine));
  high = totals.high;
}

-- The chart with the levels of a line's entry, if it is an event, and lines are taken, from the heap after the line.
abbrev pub charted : Progress → Result (Option Event) Refusal → Heap → Chart → Chart
charted Running (Ok (Some event)) heap chart = with_event (levels_of heap.totals (usage_of heap.memory)) chart
charted _ _ heap chart = chart

-- The caption of the chart of a heap with these settings: its policy and its alignment.
abbrev pub caption_of : Settings → List ℕ
caption_of settings = codes "policy " ++ policy_text settings.policy ++ codes ", alignment " ++ decimal (align_bytes settings.align)

-- The drawn chart of a replay on a heap of these settings.
abbrev pub charted_text : Settings → Charted → List ℕ
charted_text settings state = chart_text (caption_of settings) state.chart

-- ChartsLine holds if the line is taken, and the levels of its event, if it is one, join the chart.
pub record ChartsLine (old : Charted) (line text : List ℕ) (is_error : Bool) (new : Charted) : Type 0 where
  pub takes : TakesLine (peakless old.replay) line text is_error new.replay
  pub chart : new.chart ≡ charted old.replay.progress (next_entry replaying old.replay line).event new.replay.run.heap old.chart

-- ChartsRest holds if the trailing bytes are taken, and the chart stays the same.
pub record ChartsRest (old : Charted) (rest text : List ℕ) (is_error : Bool) (new : Charted) : Type 0 where
  pub takes : TakesRest old.replay rest text is_error new.replay
  pub chart : new.chart ≡ old.chart
