-- A heap over a trace that takes its lines, and the output: the samples of a series.
use Rattle.std.specs.Prelude.{◌≡◌, ◌⊎◌, ℕ, Bool, true, false, not, ◌&&◌, List, [], ◌∷◌, if◌then◌else◌, Option, Some, None, is_some, Result, Ok}
use Rattle.cc_word.specs.declared.refusal.Refusal.{Refusal}
use Rattle.cc_replay.specs.declared.counts.Count.{Count}
use Rattle.cc_replay.specs.declared.counts.Counts.{Counts}
use Rattle.cc_heap.specs.declared.event.Event.{Event}
use Rattle.cc_heap.specs.declared.event.Event.TheVariants.{Clock}
use Rattle.cc_replay.specs.declared.formats.Entry.{Entry}
use Rattle.cc_replay.specs.declared.formats.TraceFormat.{TraceFormat}
use Rattle.cc_heap.specs.declared.outcome.Outcome.{Outcome}
use Rattle.cc_replay.specs.declared.reading.Progress.{Progress}
use Rattle.cc_replay.specs.declared.reading.Progress.TheVariants.{Running, OutOfMemory}
use Rattle.cc_replay.specs.declared.reading.Reading.{Reading}
use Rattle.cc_replay.specs.declared.reading.SampleReason.{SampleReason}
use Rattle.cc_replay.specs.declared.reading.SampleReason.TheVariants.{Last}
use Rattle.cc_replay.specs.declared.summary.Figures.{Figures}
use Rattle.cc_heap.specs.Outcomes.{is_refused}
use Rattle.cc_replay.specs.Counts.{with_counted_event, with_failure, with_line, with_outcome, with_refusal}
use Rattle.cc_replay.specs.Formats.{entry_in, has_pointers}
use Rattle.cc_heap.specs.Lost.{IsRunEvent, RunState}
use Rattle.cc_heap.specs.Memory.{IsSoundMemory, usage_of}
use Rattle.cc_replay.specs.Reading.{is_due, progress_after, reason_of}
use Rattle.cc_replay.specs.Rows.{names_line, values_line}
use Rattle.cc_replay.specs.Summary.{sample_rows}
use Rattle.cc_replay.specs.Taking.{Taker, TakesLineIn, TakesRestIn}

-- The state of a replay: the heap with the lost ids; how the trace is read; the counts of its lines; the
-- pointer of a pending first half of a reallocation; the time that the trace gave last; whether further
-- lines are taken; and whether the last event, if there was one, has a sample.
pub record ReplayState : Type 0 where
  pub run : RunState
  pub reading : Reading
  pub counts : Counts
  pub pending : Option ℕ
  pub time : ℕ
  pub progress : Progress
  pub is_sampled : Bool

-- The counts before the first line.
abbrev pub no_counts : Counts
no_counts = record {
  lines = 0;
  events = 0;
  allocs = 0;
  callocs = 0;
  reallocs = 0;
  frees = 0;
  aligned = 0;
  zero = 0;
  failed = 0;
  syntax = none;
  range = none;
  unfinished = none;
  unknown = none;
  live = none;
  no_room = none;
  full = none;
  lost = none;
} where
  none : Count
  none = record { times = 0; first = 0 }

-- A replay before the first line of a trace.
abbrev pub begun : RunState → Reading → ReplayState
begun run reading = record {
  run = run;
  reading = reading;
  counts = no_counts;
  pending = None;
  time = 0;
  progress = Running;
  is_sampled = true;
}

-- The numbers of a replay.
abbrev pub figures_of : ReplayState → Figures
figures_of state = record {
  counts = state.counts;
  totals = state.run.heap.totals;
  usage = usage_of state.run.heap.memory;
  has_pointers = has_pointers state.reading.format;
}

-- The time after an event.
abbrev pub time_after : Event → (time : ℕ) → ℕ
time_after (Clock now) time = now
time_after _ time = time

-- The maximum number of bytes of a line of a series.
abbrev pub most_sample : ℕ
most_sample = 1401

-- The line of a sample for a reason, or nothing.
abbrev pub sample_text : (is_sampled : Bool) → SampleReason → ReplayState → List ℕ
sample_text is_sampled reason state = if is_sampled then values_line (sample_rows reason state.time (figures_of state)) else []

-- TakesEvent holds if the event happens to the heap, the lost ids are noted, what comes of it is counted,
-- and a sample is written if it is due.
pub record TakesEvent (old : ReplayState) (event : Event) (text : List ℕ) (is_error : Bool) (new : ReplayState) : Type 0 where
  pub outcome : Outcome
  pub run : RunState
  pub is_event : IsRunEvent old.run event outcome run
  pub is_new : new ≡ record old {
    run = run;
    counts = with_outcome outcome (with_counted_event event old.counts);
    time = time_after event old.time;
    progress = progress_after old.reading (is_refused outcome);
    is_sampled = is_due old.reading (with_counted_event event old.counts).events old.run.heap.totals.sweeps run.heap.totals.sweeps;
  }
  pub error_is : is_error ≡ is_refused outcome
  pub text_is : text ≡ sample_text new.is_sampled (reason_of new.reading new.counts.events) new

-- RunsOut holds if memory ran out in an event: nothing is written, and no further line is taken.
pub record RunsOut (old : ReplayState) (text : List ℕ) (is_error : Bool) (new : ReplayState) : Type 0 where
  pub run : RunState
  pub sound : IsSoundMemory run.heap.settings.align run.heap.memory
  pub is_new : new ≡ record old { run = run; progress = OutOfMemory }
  pub error_is : is_error ≡ false
  pub text_is : text ≡ []

-- The state with one more line, which has this entry.
abbrev pub at_entry : Entry → ReplayState → ReplayState
at_entry entry state = record state { counts = with_failure entry.is_failure (with_line state.counts); pending = entry.pending }

-- The replay as a taker of events: each line is counted, and the last one as refused if it is.
abbrev pub replaying : Taker ReplayState
replaying = record {
  format = λ state. state.reading.format;
  pending = λ state. state.pending;
  progress = λ state. state.progress;
  at_entry = at_entry;
  at_rest = λ state. record state { counts = with_line state.counts };
  refused = λ refusal old. record old { counts = with_refusal refusal old.counts; progress = progress_after old.reading true };
  takes_event = λ old event text is_error new. TakesEvent old event text is_error new ⊎ RunsOut old text is_error new;
}

-- TakesLine holds if a line is counted and taken, unless no further line is.
abbrev pub TakesLine : (old : ReplayState) → (line text : List ℕ) → (is_error : Bool) → (new : ReplayState) → Type 0
TakesLine old = TakesLineIn replaying old.progress old

-- TakesRest holds if trailing bytes are counted as a line that is refused, unless no further line is taken.
abbrev pub TakesRest : (old : ReplayState) → (rest text : List ℕ) → (is_error : Bool) → (new : ReplayState) → Type 0
TakesRest old = TakesRestIn replaying old.progress old

-- The header of the series: the names of its columns, or nothing if there is no series.
abbrev pub series_header : ReplayState → List ℕ
series_header state = if is_some state.reading.each then names_line (sample_rows Last 0 (figures_of state)) else []

-- The last sample of the series: the sample of the end, if there was an event and the last has
-- none.
abbrev pub last_sample : ReplayState → List ℕ
last_sample state = sample_text (is_some state.reading.each && not state.is_sampled) Last state

-- The events, after the event of a line, if the line is an event.
abbrev pub event_before : Result (Option Event) Refusal → List Event → List Event
event_before (Ok (Some event)) events = event ∷ events
event_before _ events = events

-- The events of lines in a format, in order.
abbrev pub events_in : TraceFormat → (pending : Option ℕ) → (lines : List (List ℕ)) → List Event
events_in format pending [] = []
events_in format pending (line ∷ lines) =
    event_before (entry_in format pending line).event (events_in format (entry_in format pending line).pending lines)
