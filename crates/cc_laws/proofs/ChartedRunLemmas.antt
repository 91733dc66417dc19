-- The chart of a replay shows the events of the lines that it takes.
use Rattle.std.proofs.Common.{◌≡◌, ◌≢◌, ◌⊎◌, ℕ, Bool, ◌+◌, ◌<◌, ◌^◌, max, List, [], ◌∷◌, ◌++◌, length, length-append, Option, Some, None, Result, Ok, Err, arith, refl, sym, ◌∙◌, ap, subst, inl, inr}
use Rattle.cc_word.specs.declared.refusal.Refusal.{Refusal}
use Rattle.cc_io.specs.Answers.{Answer, AnswersAll, EndsWith, Output, entries_of, rest_of}
use Rattle.cc_io.specs.Frames.{lines}
use Rattle.cc_io.specs.Lines.{lines_of}
use Rattle.cc_heap.specs.declared.levels.Levels.{Levels}
use Rattle.cc_heap.specs.Chart.{Chart, IsChartOf, with_events}
use Rattle.cc_laws.proofs.ChartLemmas.{shows_all}
use Rattle.cc_heap.specs.declared.event.Event.{Event}
use Rattle.cc_heap.specs.declared.outcome.Outcome.{Outcome}
use Rattle.cc_heap.specs.declared.settings.Settings.{Settings}
use Rattle.cc_heap.specs.Events.{IsEvent}
use Rattle.cc_heap.specs.Heap.{Heap, empty_heap}
use Rattle.cc_heap.specs.Memory.{usage_of}
use Rattle.cc_heap.specs.Peaks.{without_peaks}
use Rattle.cc_heap.specs.Totals.{capped_sum}
use Rattle.cc_laws.proofs.PeakLemmas.{has_peaks}
use Rattle.cc_replay.specs.declared.formats.Entry.{Entry}
use Rattle.cc_replay.specs.declared.reading.Progress.{Progress}
use Rattle.cc_replay.specs.declared.reading.Progress.TheVariants.{Running, Stopped, OutOfMemory}
use Rattle.cc_replay.specs.declared.reading.Reading.{Reading}
use Rattle.cc_replay.specs.Replay.{ReplayState, TakesLine, at_entry, event_before, events_in, replaying}
use Rattle.cc_replay.specs.Taking.{TakesEntry, TakesLineIn, TakesRestIn, next_entry}
use Rattle.cc_laws.specs.ChartedRun.{HasLevels, RunsWithLevels, ShowsRun}
use Rattle.cc_laws.proofs.SeenLemmas.{events_seen}
use Rattle.cli_replay.specs.Charting.{Charted, ChartsLine, ChartsRest, begun_chart, charted, levels_of, peakless}

-- ---- a line

-- the event of a line's entry happens to the heap, or the heap stays
abbrev Steps : Result (Option Event) Refusal → ReplayState → ReplayState → Type 0
Steps (Ok (Some event)) old new =
    (outcome : Outcome) × IsEvent old.run.heap event outcome new.run.heap
Steps _ old new = new.run.heap ≡ old.run.heap

-- the trace is read as before, and the entry has the half of a reallocation that is pending
abbrev ReadsOn : Entry → ReplayState → ReplayState → Type 0
ReadsOn entry old new = (new.reading ≡ old.reading) × (new.pending ≡ entry.pending)

entry_steps : (entry : Entry) (event : Result (Option Event) Refusal) (old new : ReplayState) (text : List ℕ) (is_error : Bool)
    → TakesEntry replaying (at_entry entry old) event text is_error new → new.progress ≢ OutOfMemory
    → ReadsOn entry old new × Steps event old new
entry_steps entry (Ok (Some event)) old new text is_error (inl t) has = (
  (ap (λ (s : ReplayState). s.reading) t.is_new, ap (λ (s : ReplayState). s.pending) t.is_new),
  (
    t.is_event.told,
    subst (λ (heap : Heap). IsEvent old.run.heap event t.is_event.told heap) (sym (ap (λ (s : ReplayState). s.run.heap) t.is_new)) t.is_event.is_event,
  ),
)
entry_steps entry (Ok (Some event)) old new text is_error (inr t) has = absurd (has (ap (λ (s : ReplayState). s.progress) t.is_new))
entry_steps entry (Ok None) old new text is_error t has = (
  (ap (λ (s : ReplayState). s.reading) t.2, ap (λ (s : ReplayState). s.pending) t.2),
  ap (λ (s : ReplayState). s.run.heap) t.2,
)
entry_steps entry (Err refusal) old new text is_error t has = (
  (ap (λ (s : ReplayState). s.reading) t.is_new, ap (λ (s : ReplayState). s.pending) t.is_new),
  ap (λ (s : ReplayState). s.run.heap) t.is_new,
)

-- the line is taken from a state that runs
record IsTaken (old : ReplayState) (line : List ℕ) (new : ReplayState) : Type 0 where
  running : old.progress ≡ Running
  reads : ReadsOn (next_entry replaying old line) old new
  steps : Steps (next_entry replaying old line).event old new

-- the line is taken, or passed by a state that has stopped
abbrev LineSteps : (old : ReplayState) (line : List ℕ) (new : ReplayState) → Type 0
LineSteps old line new = IsTaken old line new ⊎ ((old.progress ≡ Stopped) × (new ≡ old))

line_steps : (old new : ReplayState) (line text : List ℕ) (is_error : Bool) → TakesLine old line text is_error new
    → new.progress ≢ OutOfMemory → LineSteps old line new
line_steps old new line text is_error t has = by old.progress refl t where
  by : (progress : Progress) → old.progress ≡ progress → TakesLineIn replaying progress old line text is_error new → LineSteps old line new
  by Running is t =
      let entry = entry_steps (next_entry replaying old line) (next_entry replaying old line).event old new text is_error t has in
      inl (record { running = is; reads = entry.0; steps = entry.1 })
  by Stopped is t = inr (is, t.2)
  by OutOfMemory is t = absurd (has (ap (λ (s : ReplayState). s.progress) t.2 ∙ is))

-- a state that runs has not stopped, and neither has run out of memory
not_stopped : (state : ReplayState) → state.progress ≡ Running → state.progress ≡ Stopped → ⊥
not_stopped state runs stops = never (sym runs ∙ stops)
  where
    never : Running ≡ Stopped → ⊥
    never e = cc

running_has : (state : ReplayState) → state.progress ≡ Running → state.progress ≢ OutOfMemory
running_has state runs out = never (sym runs ∙ out)
  where
    never : Running ≡ OutOfMemory → ⊥
    never e = cc

stopped_has : (state : ReplayState) → state.progress ≡ Stopped → state.progress ≢ OutOfMemory
stopped_has state stops out = never (sym stops ∙ out)
  where
    never : Stopped ≡ OutOfMemory → ⊥
    never e = cc

line_has : (old new : Charted) (line : List ℕ) → LineSteps (peakless old.replay) line new.replay → old.replay.progress ≢ OutOfMemory
line_has old new line (inl taken) = running_has old.replay taken.running
line_has old new line (inr (stops, is)) = stopped_has old.replay stops

all_have : (old new : Charted) (entries : List (List ℕ)) (answers : List Answer) → AnswersAll ChartsLine old entries answers new
    → new.replay.progress ≢ OutOfMemory → old.replay.progress ≢ OutOfMemory
all_have old new [] [] t has = λ out. has (ap (λ (s : Charted). s.replay.progress) t ∙ out)
all_have old new (line ∷ entries) (answer ∷ answers) t has =
    line_has old t.0 line (line_steps (peakless old.replay) t.0.replay line answer.text answer.is_error t.1.takes (all_have t.0 new entries answers t.2 has))
all_have old new [] (answer ∷ answers) t has = absurd t
all_have old new (line ∷ entries) [] t has = absurd t

-- ---- the levels of an event

event_levels : (old : Heap) (event : Event) (outcome : Outcome) (state : ReplayState) → IsEvent (without_peaks old) event outcome state.run.heap
    → HasLevels (without_peaks old) state.run.heap (levels_of state.run.heap.totals (usage_of state.run.heap.memory))
event_levels old event outcome state is =
    let peaks = has_peaks old event outcome state.run.heap is in
    record {
      moments = peaks.moments;
      passes = peaks.passes;
      live = ap (λ (n : ℕ). max n (usage_of state.run.heap.memory).live) peaks.live;
      quarantine = ap (λ (n : ℕ). max n (usage_of state.run.heap.memory).quarantine) peaks.quarantine;
      held = ap (λ (n : ℕ). max n (capped_sum ((usage_of state.run.heap.memory).live + (usage_of state.run.heap.memory).quarantine))) peaks.held;
      high = refl;
    }

-- a run from the heap without peaks is one from the heap
from_peakless : (old new : Heap) (events : List Event) (levels : List Levels) → RunsWithLevels (without_peaks old) events levels new
    → RunsWithLevels old events levels new
from_peakless old new [] [] is = is
from_peakless old new (event ∷ events) (levels ∷ others) is = is
from_peakless old new [] (levels ∷ others) is = is
from_peakless old new (event ∷ events) [] is = is

-- ---- the levels of all events

-- the chart shows the first of the events: none from a stopped state, and all if lines are still taken
record Shown (old : Charted) (events : List Event) (new : Charted) : Type 0 where
  taken : List Event
  left : List Event
  in_order : events ≡ taken ++ left
  all : new.replay.progress ≡ Running → left ≡ []
  was_running : new.replay.progress ≡ Running → old.replay.progress ≡ Running
  halted : old.replay.progress ≡ Stopped → taken ≡ []
  levels : List Levels
  runs : RunsWithLevels old.replay.run.heap taken levels new.replay.run.heap
  chart : new.chart ≡ with_events levels old.chart

no_event : (old mid new : Charted) (events : List Event) → old.replay.progress ≡ Running
    → mid.replay.run.heap ≡ without_peaks old.replay.run.heap → mid.chart ≡ old.chart → Shown mid events new → Shown old events new
no_event old mid new events running heap chart later = record {
  taken = later.taken;
  left = later.left;
  in_order = later.in_order;
  all = later.all;
  was_running = λ runs. running;
  halted = λ stops. absurd (not_stopped old.replay running stops);
  levels = later.levels;
  runs = from_peakless old.replay.run.heap new.replay.run.heap later.taken later.levels
      (subst (λ (h : Heap). RunsWithLevels h later.taken later.levels new.replay.run.heap) heap later.runs);
  chart = later.chart ∙ ap (with_events later.levels) chart;
}

joins : (event : Result (Option Event) Refusal) (old mid new : Charted) (events : List Event) → old.replay.progress ≡ Running
    → Steps event (peakless old.replay) mid.replay → mid.chart ≡ charted Running event mid.replay.run.heap old.chart
    → Shown mid events new → Shown old (event_before event events) new
joins (Ok (Some event)) old mid new events running (outcome, is) chart later = record {
  taken = event ∷ later.taken;
  left = later.left;
  in_order = ap (λ (es : List Event). event ∷ es) later.in_order;
  all = later.all;
  was_running = λ runs. running;
  halted = λ stops. absurd (not_stopped old.replay running stops);
  levels = levels_of mid.replay.run.heap.totals (usage_of mid.replay.run.heap.memory) ∷ later.levels;
  runs = (outcome, mid.replay.run.heap, is, event_levels old.replay.run.heap event outcome mid.replay is, later.runs);
  chart = later.chart ∙ ap (with_events later.levels) chart;
}
joins (Ok None) old mid new events running heap chart later = no_event old mid new events running heap chart later
joins (Err refusal) old mid new events running heap chart later = no_event old mid new events running heap chart later

-- a state that has stopped passes the line
passes : (old mid new : Charted) (events others : List Event) (line text : List ℕ) (is_error : Bool) → old.replay.progress ≡ Stopped
    → mid.replay ≡ peakless old.replay → ChartsLine old line text is_error mid → Shown mid others new → Shown old events new
passes old mid new events others line text is_error stops is taken later = record {
  taken = later.taken;
  left = events;
  in_order = sym (ap (λ (es : List Event). es ++ events) (later.halted stopped));
  all = λ runs. absurd (not_stopped mid.replay (later.was_running runs) stopped);
  was_running = λ runs. absurd (not_stopped mid.replay (later.was_running runs) stopped);
  halted = λ before. later.halted stopped;
  levels = later.levels;
  runs = from_peakless old.replay.run.heap new.replay.run.heap later.taken later.levels
      (subst (λ (h : Heap). RunsWithLevels h later.taken later.levels new.replay.run.heap) (ap (λ (s : ReplayState). s.run.heap) is) later.runs);
  chart = later.chart ∙ ap (with_events later.levels) (taken.chart
      ∙ ap (λ (p : Progress). charted p (next_entry replaying old.replay line).event mid.replay.run.heap old.chart) stops);
} where
  stopped : mid.replay.progress ≡ Stopped
  stopped = ap (λ (s : ReplayState). s.progress) is ∙ stops

-- the events of lines in the format of a state, after the half of a reallocation that is pending in it
abbrev events_from : ReplayState → (entries : List (List ℕ)) → List Event
events_from state entries = events_in state.reading.format state.pending entries

line_shows : (old mid new : Charted) (line text : List ℕ) (is_error : Bool) (entries : List (List ℕ)) → ChartsLine old line text is_error mid
    → LineSteps (peakless old.replay) line mid.replay → Shown mid (events_from mid.replay entries) new
    → Shown old (events_from old.replay (line ∷ entries)) new
line_shows old mid new line text is_error entries charts (inl taken) later =
    let entry = next_entry replaying old.replay line in
    let same : events_from mid.replay entries ≡ events_in old.replay.reading.format entry.pending entries =
    ap (λ (reading : Reading). events_in reading.format mid.replay.pending entries) taken.reads.0
    ∙ ap (λ (pending : Option ℕ). events_in old.replay.reading.format pending entries) taken.reads.1 in
    joins entry.event old mid new (events_in old.replay.reading.format entry.pending entries) taken.running taken.steps
    (charts.chart ∙ ap (λ (p : Progress). charted p entry.event mid.replay.run.heap old.chart) taken.running)
    (subst (λ (events : List Event). Shown mid events new) same later)
line_shows old mid new line text is_error entries charts (inr (stops, is)) later =
    passes old mid new (events_from old.replay (line ∷ entries)) (events_from mid.replay entries) line text is_error stops is charts later

lines_show : (old new : Charted) (entries : List (List ℕ)) (answers : List Answer) → AnswersAll ChartsLine old entries answers new
    → new.replay.progress ≢ OutOfMemory → Shown old (events_from old.replay entries) new
lines_show old new [] [] t has = record {
  taken = [];
  left = [];
  in_order = refl;
  all = λ runs. refl;
  was_running = λ runs. sym (ap (λ (s : Charted). s.replay.progress) t) ∙ runs;
  halted = λ stops. refl;
  levels = [];
  runs = ap (λ (s : Charted). without_peaks s.replay.run.heap) t;
  chart = ap (λ (s : Charted). s.chart) t;
}
lines_show old new (line ∷ entries) (answer ∷ answers) t has =
    line_shows old t.0 new line answer.text answer.is_error entries t.1
    (line_steps (peakless old.replay) t.0.replay line answer.text answer.is_error t.1.takes (all_have t.0 new entries answers t.2 has))
    (lines_show t.0 new entries answers t.2 has)
lines_show old new [] (answer ∷ answers) t has = absurd t
lines_show old new (line ∷ entries) [] t has = absurd t

-- ---- the trailing bytes

-- trailing bytes have no event
record IsEnd (old new : Charted) : Type 0 where
  had_memory : old.replay.progress ≢ OutOfMemory
  was_running : new.replay.progress ≡ Running → old.replay.progress ≡ Running
  heap : new.replay.run.heap ≡ old.replay.run.heap
  chart : new.chart ≡ old.chart

stays : (old new : Charted) → new.replay ≡ old.replay → new.chart ≡ old.chart → new.replay.progress ≢ OutOfMemory → IsEnd old new
stays old new is chart has = record {
  had_memory = λ out. has (ap (λ (s : ReplayState). s.progress) is ∙ out);
  was_running = λ runs. sym (ap (λ (s : ReplayState). s.progress) is) ∙ runs;
  heap = ap (λ (s : ReplayState). s.run.heap) is;
  chart = chart;
}

rest_keeps : (old new : Charted) (rest : List ℕ) (ending : Answer) → EndsWith ChartsRest old rest ending new
    → new.replay.progress ≢ OutOfMemory → IsEnd old new
rest_keeps old new [] ending t has =
    stays old new (ap (λ (s : Charted). s.replay) t.2) (ap (λ (s : Charted). s.chart) t.2) has
rest_keeps old new (byte ∷ rest) ending t has = by old.replay.progress refl t.takes
  where
    by : (progress : Progress) → old.replay.progress ≡ progress
        → TakesRestIn replaying progress old.replay (byte ∷ rest) ending.text ending.is_error new.replay → IsEnd old new
    by Running is takes = record {
      had_memory = running_has old.replay is;
      was_running = λ runs. is;
      heap = ap (λ (s : ReplayState). s.run.heap) takes.is_new;
      chart = t.chart;
    }
    by Stopped is takes = stays old new takes.2 t.chart has
    by OutOfMemory is takes = stays old new takes.2 t.chart has

-- ---- a whole trace

-- there are as many levels as events
as_many : (old new : Heap) (events : List Event) (levels : List Levels) → RunsWithLevels old events levels new → length levels ≡ length events
as_many old new [] [] is = refl
as_many old new (event ∷ events) (levels ∷ others) (outcome, next, happens, has, rest) = omega (arith, as_many next new events others rest)
as_many old new [] (levels ∷ others) is = absurd is
as_many old new (event ∷ events) [] is = absurd is

shows_run : (settings : Settings) (reading : Reading) (events : List Event) (new : Charted) → length events < 2 ^ 64
    → Shown (begun_chart settings reading) events new → ShowsRun (empty_heap settings) events new
shows_run settings reading events new few shown =
    let both : length events ≡ length (shown.taken ++ shown.left) = ap length shown.in_order in
    let each = length-append shown.taken shown.left in
    let many = as_many (empty_heap settings) new.replay.run.heap shown.taken shown.levels shown.runs in
    record {
      taken = shown.taken;
      left = shown.left;
      in_order = shown.in_order;
      all = shown.all;
      levels = shown.levels;
      runs = shown.runs;
      shows = subst (λ (chart : Chart). IsChartOf shown.levels chart) (sym shown.chart)
          (shows_all shown.levels (omega (arith, few, both, each, many)));
    }

-- the trailing bytes change neither the heap nor the chart
ended : (old mid new : Charted) (events : List Event) → Shown old events mid → IsEnd mid new → Shown old events new
ended old mid new events shown end = record {
  taken = shown.taken;
  left = shown.left;
  in_order = shown.in_order;
  all = λ runs. shown.all (end.was_running runs);
  was_running = λ runs. shown.was_running (end.was_running runs);
  halted = shown.halted;
  levels = shown.levels;
  runs = subst (λ (h : Heap). RunsWithLevels old.replay.run.heap shown.taken shown.levels h) (sym end.heap) shown.runs;
  chart = end.chart ∙ shown.chart;
}

pub charts_show_runs : (settings : Settings) (reading : Reading) (text output : List ℕ) (any_error : Bool) (new : Charted)
    → Output ChartsLine ChartsRest lines (begun_chart settings reading) text output any_error new
    → new.replay.progress ≢ OutOfMemory → length (events_in reading.format None (lines_of text)) < 2 ^ 64
    → ShowsRun (empty_heap settings) (events_in reading.format None (lines_of text)) new
charts_show_runs settings reading text output any_error new o has few =
    let end = rest_keeps o.mid new (rest_of lines text) o.ending o.ends has in
    let same : events_in reading.format None (entries_of lines text) ≡ events_in reading.format None (lines_of text) =
    events_seen reading.format None (lines_of text) in
    let shown = lines_show (begun_chart settings reading) o.mid (entries_of lines text) o.answers o.takes end.had_memory in
    shows_run settings reading (events_in reading.format None (lines_of text)) new few
    (ended (begun_chart settings reading) o.mid new (events_in reading.format None (lines_of text))
    (subst (λ (events : List Event). Shown (begun_chart settings reading) events o.mid) same shown) end)
