-- The events of the lines that a replay takes.
use Rattle.std.proofs.Common.{◌≡◌, ℕ, Bool, List, [], ◌∷◌, Option, Some, None, Result, Ok, Err, refl, sym, ◌∙◌, ap, subst, inl, inr}
use Rattle.cc_word.specs.declared.refusal.Refusal.{Refusal}
use Rattle.cc_io.specs.Answers.{Answer, AnswersAll, EndsWith, Output, entries_of, rest_of}
use Rattle.cc_io.specs.Frames.{lines}
use Rattle.cc_io.specs.Lines.{lines_of}
use Rattle.cc_heap.specs.declared.event.Event.{Event}
use Rattle.cc_replay.specs.declared.formats.Entry.{Entry}
use Rattle.cc_heap.specs.declared.outcome.Outcome.{Outcome}
use Rattle.cc_replay.specs.declared.reading.Progress.{Progress}
use Rattle.cc_replay.specs.declared.reading.Progress.TheVariants.{Running, Stopped, OutOfMemory}
use Rattle.cc_replay.specs.declared.reading.Reading.{Reading}
use Rattle.cc_heap.specs.Lost.{IsRunEvent, RunState, RunsNoting}
use Rattle.cc_replay.specs.Replay.{ReplayState, TakesLine, TakesRest, at_entry, event_before, events_in, replaying}
use Rattle.cc_replay.specs.Taking.{TakesEntry, TakesLineIn, TakesRestIn, next_entry}
use Rattle.cc_heap.specs.Run.{Runs}
use Rattle.cc_laws.proofs.SeenLemmas.{events_seen}

-- the event of a line's entry happens, or the run does not change
abbrev EventRuns : Result (Option Event) Refusal → RunState → RunState → Type 0
EventRuns (Ok (Some event)) old new = (outcome : Outcome) × IsRunEvent old event outcome new
EventRuns _ old new = new ≡ old

-- the trace is read as before, and the entry has the half of a reallocation that is pending
abbrev ReadsOn : Entry → ReplayState → ReplayState → Type 0
ReadsOn entry old new = (new.reading ≡ old.reading) × (new.pending ≡ entry.pending)

event_runs : (entry : Entry) (event : Result (Option Event) Refusal) (old new : ReplayState) (text : List ℕ) (is_error : Bool)
    → TakesEntry replaying (at_entry entry old) event text is_error new → new.progress ≡ Running
    → ReadsOn entry old new × EventRuns event old.run new.run
event_runs entry (Ok (Some event)) old new text is_error (inl t) r = (
  (ap (λ (s : ReplayState). s.reading) t.is_new, ap (λ (s : ReplayState). s.pending) t.is_new),
  (t.outcome, subst (λ (run : RunState). IsRunEvent old.run event t.outcome run) (sym (ap (λ (s : ReplayState). s.run) t.is_new)) t.is_event),
)
event_runs entry (Ok (Some event)) old new text is_error (inr t) r =
    let ran_out : OutOfMemory ≡ Running = sym (ap (λ (s : ReplayState). s.progress) t.is_new) ∙ r in absurd cc
event_runs entry (Ok None) old new text is_error t r =
    ((ap (λ (s : ReplayState). s.reading) t.2, ap (λ (s : ReplayState). s.pending) t.2), ap (λ (s : ReplayState). s.run) t.2)
event_runs entry (Err refusal) old new text is_error t r =
    ((ap (λ (s : ReplayState). s.reading) t.is_new, ap (λ (s : ReplayState). s.pending) t.is_new), ap (λ (s : ReplayState). s.run) t.is_new)

line_runs : (old new : ReplayState) (line text : List ℕ) (is_error : Bool) → TakesLine old line text is_error new → new.progress ≡ Running
    → (old.progress ≡ Running) × (ReadsOn (next_entry replaying old line) old new × EventRuns (next_entry replaying old line).event old.run new.run)
line_runs old new line text is_error t r = by old.progress refl t where
  by : (progress : Progress) → old.progress ≡ progress → TakesLineIn replaying progress old line text is_error new
      → (old.progress ≡ Running) × (ReadsOn (next_entry replaying old line) old new × EventRuns (next_entry replaying old line).event old.run new.run)
  by Running is t = (is, event_runs (next_entry replaying old line) (next_entry replaying old line).event old new text is_error t r)
  by Stopped is t =
      let stopped : Stopped ≡ Running = sym is ∙ sym (ap (λ (s : ReplayState). s.progress) t.2) ∙ r in absurd cc
  by OutOfMemory is t =
      let stopped : OutOfMemory ≡ Running = sym is ∙ sym (ap (λ (s : ReplayState). s.progress) t.2) ∙ r in absurd cc

joined : (event : Result (Option Event) Refusal) (old mid new : RunState) (events : List Event) → EventRuns event old mid
    → RunsNoting mid events new → RunsNoting old (event_before event events) new
joined (Ok (Some event)) old mid new events first later = (first.0, mid, first.1, later)
joined (Ok None) old mid new events first later = subst (λ (run : RunState). RunsNoting run events new) first later
joined (Err refusal) old mid new events first later = subst (λ (run : RunState). RunsNoting run events new) first later

-- the events of lines in the format of a state, after the half of a reallocation that is pending in it
abbrev events_from : ReplayState → (entries : List (List ℕ)) → List Event
events_from state entries = events_in state.reading.format state.pending entries

lines_run : (old new : ReplayState) (entries : List (List ℕ)) (answers : List Answer) → AnswersAll TakesLine old entries answers new → new.progress ≡ Running
    → (old.progress ≡ Running) × RunsNoting old.run (events_from old entries) new.run
lines_run old new [] [] t r = (sym (ap (λ (s : ReplayState). s.progress) t) ∙ r, ap (λ (s : ReplayState). s.run) t)
lines_run old new (line ∷ entries) (answer ∷ answers) t r =
    let later = lines_run t.0 new entries answers t.2 r in
    let first = line_runs old t.0 line answer.text answer.is_error t.1 later.0 in
    let after = subst (λ (reading : Reading). RunsNoting t.0.run (events_in reading.format t.0.pending entries) new.run) first.1.0.0 later.1 in
    let then = subst (λ (pending : Option ℕ). RunsNoting t.0.run (events_in old.reading.format pending entries) new.run) first.1.0.1 after in
    (first.0, joined (next_entry replaying old line).event old.run t.0.run new.run (events_in old.reading.format (next_entry replaying old line).pending entries) first.1.1 then)
lines_run old new [] (answer ∷ answers) t r = absurd t
lines_run old new (line ∷ entries) [] t r = absurd t

rest_runs : (old new : ReplayState) (rest : List ℕ) (ending : Answer) → EndsWith TakesRest old rest ending new → new.progress ≡ Running
    → (old.progress ≡ Running) × (new.run ≡ old.run)
rest_runs old new [] ending t r = (sym (ap (λ (s : ReplayState). s.progress) t.2) ∙ r, ap (λ (s : ReplayState). s.run) t.2)
rest_runs old new (byte ∷ rest) ending t r = by old.progress refl t where
  stays : new ≡ old → (old.progress ≡ Running) × (new.run ≡ old.run)
  stays is = (sym (ap (λ (s : ReplayState). s.progress) is) ∙ r, ap (λ (s : ReplayState). s.run) is)

  by : (progress : Progress) → old.progress ≡ progress → TakesRestIn replaying progress old (byte ∷ rest) ending.text ending.is_error new
      → (old.progress ≡ Running) × (new.run ≡ old.run)
  by Running is t = (is, ap (λ (s : ReplayState). s.run) t.is_new)
  by Stopped is t = stays t.2
  by OutOfMemory is t = stays t.2

pub replays_are_runs : (old new : ReplayState) (text output : List ℕ) (any_error : Bool)
    → Output TakesLine TakesRest lines old text output any_error new → new.progress ≡ Running
    → RunsNoting old.run (events_from old (lines_of text)) new.run
replays_are_runs old new text output any_error o r =
    let end = rest_runs o.mid new (rest_of lines text) o.ending o.ends r in
    let all = lines_run old o.mid (entries_of lines text) o.answers o.takes end.0 in
    subst (λ (run : RunState). RunsNoting old.run (events_from old (lines_of text)) run) (sym end.1)
    (subst (λ (events : List Event). RunsNoting old.run events o.mid.run) (events_seen old.reading.format old.pending (lines_of text)) all.1)

-- the heap of a run takes the events, whatever ids are lost
heap_runs : (old new : RunState) (events : List Event) → RunsNoting old events new → Runs old.heap events new.heap
heap_runs old new [] same = ap (λ (run : RunState). run.heap) same
heap_runs old new (event ∷ events) (outcome, next, is, later) =
    (is.told, next.heap, is.is_event, heap_runs next new events later)

pub replays_run_heaps : (old new : ReplayState) (text output : List ℕ) (any_error : Bool)
    → Output TakesLine TakesRest lines old text output any_error new → new.progress ≡ Running
    → Runs old.run.heap (events_from old (lines_of text)) new.run.heap
replays_run_heaps old new text output any_error o r =
    heap_runs old.run new.run (events_from old (lines_of text)) (replays_are_runs old new text output any_error o r)
