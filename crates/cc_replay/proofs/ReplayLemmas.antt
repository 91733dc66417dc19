-- An event that was taken.
use Rattle.std.proofs.Common.{◌≡◌, ℕ, Bool, false, List, [], ◌++◌, Option, Some, None, Result, Ok, Err, refl, sym, ◌∙◌, ap, append-nil, inl, subst}
use Rattle.cc_word.specs.declared.refusal.Refusal.TheVariants.{Unfinished}
use Rattle.cc_replay.specs.declared.counts.Counts.{Counts}
use Rattle.cc_heap.specs.declared.event.Event.{Event}
use Rattle.cc_io.specs.Answers.{AnswersInto}
use Rattle.cc_word.specs.declared.refusal.Refusal.{Refusal}
use Rattle.cc_replay.specs.declared.formats.Entry.{Entry}
use Rattle.cc_heap.specs.declared.outcome.Outcome.{Outcome}
use Rattle.cc_replay.specs.declared.reading.Progress.{Progress}
use Rattle.cc_replay.specs.declared.reading.Reading.{Reading}
use Rattle.cc_replay.specs.Counts.{with_counted_event, with_failure, with_line, with_outcome}
use Rattle.cc_heap.specs.Lost.{IsRunEvent, RunState}
use Rattle.cc_replay.specs.Reading.{is_due, is_over, progress_after, reason_of}
use Rattle.cc_heap.specs.Outcomes.{is_refused}
use Rattle.cc_replay.specs.Replay.{ReplayState, TakesLine, TakesRest, at_entry, replaying, sample_text, time_after}
use Rattle.cc_replay.specs.Taking.{AppendsEntry, AppendsEvent, RefusesEntry, TakesEntry, next_entry}
use Rattle.cc_replay.proofs.TakingLemmas.{entry_answers, rest_answers}

-- the state after an event, by its parts
abbrev pub state_of : RunState → Reading → Counts → (pending : Option ℕ) → ℕ → Progress → Bool → ReplayState
state_of run reading counts pending time progress is_sampled = record {
  run = run;
  reading = reading;
  counts = counts;
  pending = pending;
  time = time;
  progress = progress;
  is_sampled = is_sampled;
}

-- the state after an event is that before it with its run and its counts, and its sample is appended if it is due
pub event_taken : (old : ReplayState) (event : Event) (outcome : Outcome) (run : RunState) (sweeps : ℕ) (new : ReplayState) (out out_now : List ℕ)
    (refused : Bool)
    → IsRunEvent old.run event outcome run
    → sweeps ≡ old.run.heap.totals.sweeps
    → new ≡ record old {
      run = run;
      counts = with_outcome outcome (with_counted_event event old.counts);
      time = time_after event old.time;
      progress = progress_after old.reading (is_refused outcome);
      is_sampled = is_due old.reading (with_counted_event event old.counts).events sweeps run.heap.totals.sweeps;
    }
    → refused ≡ is_refused outcome
    → out_now ≡ out ++ sample_text new.is_sampled (reason_of new.reading new.counts.events) new
    → AppendsEvent replaying old event out out_now refused new
event_taken old event outcome run sweeps new out out_now refused is_event sweeps_is is_new refused_is out_is =
    record {
      text = sample_text new.is_sampled (reason_of new.reading new.counts.events) new;
      out_is = out_is;
      takes = inl (record {
        outcome = outcome;
        run = run;
        is_event = is_event;
        is_new = is_new ∙ ap (λ (n : ℕ). record old {
          run = run;
          counts = with_outcome outcome (with_counted_event event old.counts);
          time = time_after event old.time;
          progress = progress_after old.reading (is_refused outcome);
          is_sampled = is_due old.reading (with_counted_event event old.counts).events n run.heap.totals.sweeps;
        }) sweeps_is;
        error_is = refused_is;
        text_is = refl;
      });
    }

-- the next line is taken as its entry is
pub line_replayed : (old : ReplayState) (entry : Entry) (line out out_now : List ℕ) (is_error : Bool) (new : ReplayState)
    → is_over old.progress ≡ false → entry ≡ next_entry replaying old line → AppendsEntry replaying old entry out out_now is_error new
    → AnswersInto TakesLine old line out out_now is_error new
line_replayed old entry line out out_now is_error new going is taken = entry_answers replaying old entry line out out_now is_error new going is taken

-- trailing bytes are refused
pub rest_replayed : (old : ReplayState) (rest out : List ℕ) (is_error : Bool) (new : ReplayState)
    → is_over old.progress ≡ false → RefusesEntry (replaying.refused Unfinished (replaying.at_rest old)) [] is_error new
    → AnswersInto TakesRest old rest out out is_error new
rest_replayed old rest out is_error new going refuses = rest_answers replaying old rest out is_error new going refuses

-- the entry of a line is an event, which was taken
pub event_entry : (old : ReplayState) (entry : Entry) (event : Event) (counts : Counts) (out out_now : List ℕ) (is_error : Bool) (new : ReplayState)
    → entry.event ≡ Ok (Some event)
    → counts ≡ with_failure entry.is_failure (with_line old.counts)
    → AppendsEvent replaying (state_of old.run old.reading counts entry.pending old.time old.progress old.is_sampled) event out out_now is_error new
    → AppendsEntry replaying old entry out out_now is_error new
event_entry old entry event counts out out_now is_error new is counts_is taken =
    let here : AppendsEvent replaying (at_entry entry old) event out out_now is_error new =
    subst (λ (n : Counts). AppendsEvent replaying (state_of old.run old.reading n entry.pending old.time old.progress old.is_sampled) event out out_now is_error new) counts_is taken in
    record {
      text = here.text;
      out_is = here.out_is;
      takes = subst (λ (e : Result (Option Event) Refusal). TakesEntry replaying (at_entry entry old) e here.text is_error new) (sym is) here.takes;
    }

-- the entry of a line is refused
pub refused_entry : (old : ReplayState) (entry : Entry) (refusal : Refusal) (counts : Counts) (out : List ℕ) (is_error : Bool) (new : ReplayState)
    → entry.event ≡ Err refusal
    → counts ≡ with_failure entry.is_failure (with_line old.counts)
    → RefusesEntry (replaying.refused refusal (state_of old.run old.reading counts entry.pending old.time old.progress old.is_sampled)) [] is_error new
    → AppendsEntry replaying old entry out out is_error new
refused_entry old entry refusal counts out is_error new is counts_is refused =
    record {
      text = [];
      out_is = sym (append-nil out);
      takes = subst (λ (e : Result (Option Event) Refusal). TakesEntry replaying (at_entry entry old) e [] is_error new) (sym is)
          (subst (λ (n : Counts). RefusesEntry (replaying.refused refusal (state_of old.run old.reading n entry.pending old.time old.progress old.is_sampled)) [] is_error new) counts_is refused);
    }

-- the entry of a line has no event
pub passed_entry : (old : ReplayState) (entry : Entry) (counts : Counts) (out : List ℕ)
    → entry.event ≡ Ok None
    → counts ≡ with_failure entry.is_failure (with_line old.counts)
    → AppendsEntry replaying old entry out out false (state_of old.run old.reading counts entry.pending old.time old.progress old.is_sampled)
passed_entry old entry counts out is counts_is =
    let new : ReplayState = state_of old.run old.reading counts entry.pending old.time old.progress old.is_sampled in
    let new_is : new ≡ at_entry entry old =
    ap (λ (n : Counts). state_of old.run old.reading n entry.pending old.time old.progress old.is_sampled) counts_is in
    record {
      text = [];
      out_is = sym (append-nil out);
      takes = subst (λ (e : Result (Option Event) Refusal). TakesEntry replaying (at_entry entry old) e [] false new) (sym is) (refl, refl, new_is);
    }
