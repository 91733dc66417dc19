-- A trace has one output and one summary, whatever the order of live objects, if memory does not run out.
use Rattle.std.proofs.Common.{◌≡◌, ◌≢◌, ℕ, Bool, true, false, ◌&&◌, ◌||◌, not, List, [], ◌∷◌, ◌++◌, Option, Some, None, Result, Ok, Err, refl, sym, ◌∙◌, ap, subst, inl, inr, if◌then◌else◌, arith}
use Rattle.std.specs.List.{list_any}
use Rattle.std.proofs.lemmas.List.Sorted.{sum_by-IsPermutation}
use Rattle.cc_word.specs.declared.refusal.Refusal.{Refusal}
use Rattle.cc_word.specs.declared.refusal.Refusal.TheVariants.{Unfinished}
use Rattle.cc_bounds.specs.declared.span.Span.{Span}
use Rattle.cc_io.specs.Answers.{Answer, AnswersAll, EndsWith, Output, answers_text, entries_of, rest_of}
use Rattle.cc_io.specs.Frames.{lines}
use Rattle.cc_heap.specs.declared.event.Event.{Event}
use Rattle.cc_replay.specs.declared.reading.Progress.{Progress}
use Rattle.cc_replay.specs.declared.reading.Progress.TheVariants.{Running, Stopped, OutOfMemory}
use Rattle.cc_replay.specs.declared.reading.Reading.{Reading}
use Rattle.cc_replay.specs.Formats.{has_pointers}
use Rattle.cc_replay.specs.Reading.{is_due, progress_after, reason_of}
use Rattle.cc_heap.specs.declared.outcome.Outcome.{Outcome}
use Rattle.cc_heap.specs.declared.settings.Settings.{Settings}
use Rattle.cc_heap.specs.declared.totals.Totals.{Totals}
use Rattle.cc_heap.specs.Heap.{empty_heap}
use Rattle.cc_heap.specs.Lost.{RunState, empty_run}
use Rattle.cc_heap.specs.Memory.{usage_of}
use Rattle.cc_heap.specs.Outcomes.{is_refused}
use Rattle.cc_replay.specs.declared.summary.Figures.{Figures}
use Rattle.cc_replay.specs.Counts.{with_counted_event, with_outcome, with_refusal}
use Rattle.cc_replay.specs.Replay.{ReplayState, TakesEvent, TakesLine, TakesRest, at_entry, begun, figures_of, replaying, sample_text, time_after}
use Rattle.cc_replay.specs.Taking.{Passes, RefusesEntry, TakesEntry, TakesLineIn, TakesRestIn, next_entry}
use Rattle.cc_replay.specs.Rows.{values_line}
use Rattle.cc_replay.specs.Summary.{sample_rows}
use Rattle.cc_laws.specs.OneOutcome.{AreAlikeReplays, AreAlikeRuns}
use Rattle.cc_laws.proofs.EntryOrderLemmas.{AreOnceIn}
use Rattle.cc_laws.proofs.AlikeHeapLemmas.{alike_itself, event_once, usage_along}
use Rattle.cc_laws.proofs.OneSummaryLemmas.{alike_run_event, run_leads}

-- the replay with this run
abbrev re : RunState → ReplayState → ReplayState
re run state = record state { run = run }

-- each id has one object at most
abbrev pub IsOnce : ReplayState → Type 0
IsOnce state = AreOnceIn state.run.heap.memory.live

-- the other replay is the one with a run that is alike
record IsReordered (one other : ReplayState) : Type 0 where
  run : RunState
  alike : AreAlikeRuns one.run run
  is : other ≡ re run one
  once : IsOnce one

usage_same : (one other : RunState) → AreAlikeRuns one other → usage_of other.heap.memory ≡ usage_of one.heap.memory
usage_same one other alike =
    ap (λ (q : List Span). usage_of (record { live = other.heap.memory.live; quarantined = q })) alike.heap.quarantined
    ∙ usage_along one.heap.memory.live other.heap.memory.live one.heap.memory.quarantined (λ weight.
    sum_by-IsPermutation weight one.heap.memory.live other.heap.memory.live alike.heap.live)

figures_same : (state : ReplayState) (run : RunState) → AreAlikeRuns state.run run → figures_of (re run state) ≡ figures_of state
figures_same state run alike =
    let totals = alike.heap.totals in
    let usage = usage_same state.run run alike in
    λ i. record { counts = state.counts; totals = totals i; usage = usage i; has_pointers = has_pointers state.reading.format }

sample_same : (state : ReplayState) (run : RunState) → AreAlikeRuns state.run run
    → sample_text state.is_sampled (reason_of state.reading state.counts.events) (re run state)
    ≡ sample_text state.is_sampled (reason_of state.reading state.counts.events) state
sample_same state run alike = ap (λ (figures : Figures).
    if state.is_sampled then values_line (sample_rows (reason_of state.reading state.counts.events) state.time figures) else []) (figures_same state run alike)

-- what a line or the trailing bytes lead to
record IsOneAnswer (text told : List ℕ) (is_error is_told : Bool) (new another : ReplayState) : Type 0 where
  same_text : told ≡ text
  same_error : is_told ≡ is_error
  order : IsReordered new another

-- ---- a line

passes : (old new another : ReplayState) (run : RunState) (text told : List ℕ) (is_error is_told : Bool) → IsOnce old → AreAlikeRuns old.run run
    → Passes old text is_error new → Passes (re run old) told is_told another → IsOneAnswer text told is_error is_told new another
passes old new another run text told is_error is_told once alike (none, not, is) (none_too, not_too, is_other) = record {
  same_text = none_too ∙ sym none;
  same_error = not_too ∙ sym not;
  order = record {
    run = run;
    alike = subst (λ (s : ReplayState). AreAlikeRuns s.run run) (sym is) alike;
    is = is_other ∙ ap (re run) (sym is);
    once = subst IsOnce (sym is) once;
  };
}

refuses : (old new another : ReplayState) (run : RunState) (refusal : Refusal) (text told : List ℕ) (is_error is_told : Bool) → IsOnce old
    → AreAlikeRuns old.run run → RefusesEntry (replaying.refused refusal old) text is_error new → RefusesEntry (replaying.refused refusal (re run old)) told is_told another
    → IsOneAnswer text told is_error is_told new another
refuses old new another run refusal text told is_error is_told once alike first second = record {
  same_text = second.text_is ∙ sym first.text_is;
  same_error = second.error_is ∙ sym first.error_is;
  order = record {
    run = run;
    alike = subst (λ (s : ReplayState). AreAlikeRuns s.run run) (sym first.is_new) alike;
    is = second.is_new ∙ ap (re run) (sym first.is_new);
    once = subst IsOnce (sym first.is_new) once;
  };
}

takes_event : (old new another : ReplayState) (run : RunState) (event : Event) (text told : List ℕ) (is_error is_told : Bool) → IsOnce old
    → AreAlikeRuns old.run run → TakesEvent old event text is_error new → TakesEvent (re run old) event told is_told another
    → IsOneAnswer text told is_error is_told new another
takes_event old new another run event text told is_error is_told once alike first second =
    let one = alike_run_event old.run run first.run second.run event first.outcome second.outcome once alike first.is_event second.is_event in
    let before = ap (λ (t : Totals). t.sweeps) alike.heap.totals in
    let after = ap (λ (t : Totals). t.sweeps) one.alike.heap.totals in
    let state : Outcome → ℕ → ℕ → ReplayState = λ outcome swept_before swept_after. record old {
      run = second.run;
      counts = with_outcome outcome (with_counted_event event old.counts);
      time = time_after event old.time;
      progress = progress_after old.reading (is_refused outcome);
      is_sampled = is_due old.reading (with_counted_event event old.counts).events swept_before swept_after;
    } in
    let moved : another ≡ re second.run new =
    second.is_new ∙ (λ i. state (one.same i) (before i) (after i)) ∙ ap (re second.run) (sym first.is_new) in
    let run_is : new.run ≡ first.run = ap (λ (s : ReplayState). s.run) first.is_new in
    let alike_now : AreAlikeRuns new.run second.run = subst (λ (r : RunState). AreAlikeRuns r second.run) (sym run_is) one.alike in
    record {
      same_text =
          second.text_is ∙ ap (λ (s : ReplayState). sample_text s.is_sampled (reason_of s.reading s.counts.events) s) moved ∙ sample_same new second.run alike_now
          ∙ sym first.text_is;
      same_error = second.error_is ∙ ap is_refused one.same ∙ sym first.error_is;
      order = record {
        run = second.run;
        alike = alike_now;
        is = moved;
        once = subst (λ (r : RunState). AreOnceIn r.heap.memory.live) (sym run_is)
            (event_once old.run.heap event first.is_event.told first.run.heap once first.is_event.is_event);
      };
    }

takes_entry : (old new another : ReplayState) (run : RunState) (event : Result (Option Event) Refusal) (text told : List ℕ)
    (is_error is_told : Bool) → IsOnce old → AreAlikeRuns old.run run → TakesEntry replaying old event text is_error new
    → TakesEntry replaying (re run old) event told is_told another → new.progress ≢ OutOfMemory → another.progress ≢ OutOfMemory
    → IsOneAnswer text told is_error is_told new another
takes_entry old new another run (Ok (Some event)) text told is_error is_told once alike (inl first) (inl second) left left_too =
    takes_event old new another run event text told is_error is_told once alike first second
takes_entry old new another run (Ok (Some event)) text told is_error is_told once alike (inr out) second left left_too =
    absurd (left (ap (λ (s : ReplayState). s.progress) out.is_new))
takes_entry old new another run (Ok (Some event)) text told is_error is_told once alike (inl first) (inr out) left left_too =
    absurd (left_too (ap (λ (s : ReplayState). s.progress) out.is_new))
takes_entry old new another run (Ok None) text told is_error is_told once alike first second left left_too =
    passes old new another run text told is_error is_told once alike first second
takes_entry old new another run (Err refusal) text told is_error is_told once alike first second left left_too =
    refuses old new another run refusal text told is_error is_told once alike first second

takes_line : (old new another : ReplayState) (run : RunState) (line text told : List ℕ) (is_error is_told : Bool) → IsOnce old
    → AreAlikeRuns old.run run → TakesLine old line text is_error new → TakesLine (re run old) line told is_told another
    → new.progress ≢ OutOfMemory → another.progress ≢ OutOfMemory → IsOneAnswer text told is_error is_told new another
takes_line old new another run line text told is_error is_told once alike first second left left_too = by_progress old.progress first second
  where
    by_progress : (progress : Progress) → TakesLineIn replaying progress old line text is_error new
        → TakesLineIn replaying progress (re run old) line told is_told another → IsOneAnswer text told is_error is_told new another
    by_progress Running first second =
        takes_entry (at_entry (next_entry replaying old line) old) new another run (next_entry replaying old line).event text told is_error is_told once alike
        first second left left_too
    by_progress Stopped first second = passes old new another run text told is_error is_told once alike first second
    by_progress OutOfMemory first second = passes old new another run text told is_error is_told once alike first second

-- ---- all lines

-- once memory ran out, no line is taken
line_left : (old new : ReplayState) (line text : List ℕ) (is_error : Bool) → TakesLine old line text is_error new → new.progress ≢ OutOfMemory
    → old.progress ≢ OutOfMemory
line_left old new line text is_error takes left out = by_progress old.progress out takes
  where
    by_progress : (progress : Progress) → progress ≡ OutOfMemory → TakesLineIn replaying progress old line text is_error new → ⊥
    by_progress Running is takes = let e = is in cc
    by_progress Stopped is takes = let e = is in cc
    by_progress OutOfMemory is (none, not, same) = left (ap (λ (s : ReplayState). s.progress) same ∙ out)

lines_left : (old new : ReplayState) (entries : List (List ℕ)) (answers : List Answer) → AnswersAll TakesLine old entries answers new
    → new.progress ≢ OutOfMemory → old.progress ≢ OutOfMemory
lines_left old new [] [] is left = λ out. left (ap (λ (s : ReplayState). s.progress) is ∙ out)
lines_left old new (line ∷ entries) (answer ∷ answers) takes left =
    line_left old takes.0 line answer.text answer.is_error takes.1 (lines_left takes.0 new entries answers takes.2 left)
lines_left old new [] (answer ∷ answers) takes left = absurd takes
lines_left old new (line ∷ entries) [] takes left = absurd takes

record AreOneAnswers (answers told : List Answer) (new another : ReplayState) : Type 0 where
  same : told ≡ answers
  order : IsReordered new another

takes_lines : (old new another : ReplayState) (run : RunState) (entries : List (List ℕ)) (answers told : List Answer) → IsOnce old
    → AreAlikeRuns old.run run → AnswersAll TakesLine old entries answers new → AnswersAll TakesLine (re run old) entries told another
    → new.progress ≢ OutOfMemory → another.progress ≢ OutOfMemory → AreOneAnswers answers told new another
takes_lines old new another run [] [] [] once alike is is_other left left_too = record {
  same = refl;
  order = record {
    run = run;
    alike = subst (λ (s : ReplayState). AreAlikeRuns s.run run) (sym is) alike;
    is = is_other ∙ ap (re run) (sym is);
    once = subst IsOnce (sym is) once;
  };
}
takes_lines old new another run (line ∷ entries) (answer ∷ answers) (other ∷ told) once alike first second left left_too =
    let one = takes_line old first.0 second.0 run line answer.text other.text answer.is_error other.is_error once alike first.1 second.1
    (lines_left first.0 new entries answers first.2 left) (lines_left second.0 another entries told second.2 left_too) in
    let next = takes_lines first.0 new another one.order.run entries answers told one.order.once one.order.alike first.2
    (subst (λ (s : ReplayState). AnswersAll TakesLine s entries told another) one.order.is second.2) left left_too in
    let text = one.same_text in
    let error = one.same_error in
    let rest = next.same in
    record { same = λ i. record { text = text i; is_error = error i } ∷ rest i; order = next.order }
takes_lines old new another run [] (answer ∷ answers) told once alike first second left left_too = absurd first
takes_lines old new another run (line ∷ entries) [] told once alike first second left left_too = absurd first
takes_lines old new another run [] [] (other ∷ told) once alike first second left left_too = absurd second
takes_lines old new another run (line ∷ entries) (answer ∷ answers) [] once alike first second left left_too = absurd second

-- ---- the trailing bytes

ends_with : (old new another : ReplayState) (run : RunState) (rest : List ℕ) (ending told : Answer) → IsOnce old → AreAlikeRuns old.run run
    → EndsWith TakesRest old rest ending new → EndsWith TakesRest (re run old) rest told another
    → IsOneAnswer ending.text told.text ending.is_error told.is_error new another
ends_with old new another run [] ending told once alike first second =
    passes old new another run ending.text told.text ending.is_error told.is_error once alike first second
ends_with old new another run (byte ∷ rest) ending told once alike first second = by_progress old.progress first second
  where
    by_progress : (progress : Progress) → TakesRestIn replaying progress old (byte ∷ rest) ending.text ending.is_error new
        → TakesRestIn replaying progress (re run old) (byte ∷ rest) told.text told.is_error another
        → IsOneAnswer ending.text told.text ending.is_error told.is_error new another
    by_progress Running first second =
        refuses (replaying.at_rest old) new another run Unfinished ending.text told.text ending.is_error told.is_error once alike first second
    by_progress Stopped first second =
        passes old new another run ending.text told.text ending.is_error told.is_error once alike first second
    by_progress OutOfMemory first second =
        passes old new another run ending.text told.text ending.is_error told.is_error once alike first second

rest_left : (old new : ReplayState) (rest : List ℕ) (ending : Answer) → EndsWith TakesRest old rest ending new → new.progress ≢ OutOfMemory
    → old.progress ≢ OutOfMemory
rest_left old new [] ending (none, not, is) left out = left (ap (λ (s : ReplayState). s.progress) is ∙ out)
rest_left old new (byte ∷ rest) ending ends left out = by_progress old.progress out ends
  where
    by_progress : (progress : Progress) → progress ≡ OutOfMemory → TakesRestIn replaying progress old (byte ∷ rest) ending.text ending.is_error new → ⊥
    by_progress Running is ends = let e = is in cc
    by_progress Stopped is ends = let e = is in cc
    by_progress OutOfMemory is (none, not, same) = left (ap (λ (s : ReplayState). s.progress) same ∙ out)

-- ---- a trace

pub record IsOneReplay (output told : List ℕ) (any_error is_told : Bool) (new another : ReplayState) : Type 0 where
  pub same_output : told ≡ output
  pub same_error : is_told ≡ any_error
  pub alike : AreAlikeReplays new another

pub one_replay : (settings : Settings) (reading : Reading) (text output told : List ℕ) (any_error is_told : Bool) (new another : ReplayState)
    → Output TakesLine TakesRest lines (begun (empty_run settings) reading) text output any_error new
    → Output TakesLine TakesRest lines (begun (empty_run settings) reading) text told is_told another
    → new.progress ≢ OutOfMemory → another.progress ≢ OutOfMemory → IsOneReplay output told any_error is_told new another
one_replay settings reading text output told any_error is_told new another first second left left_too =
    let all = takes_lines (begun (empty_run settings) reading) first.mid second.mid (empty_run settings) (entries_of lines text)
    first.answers second.answers (λ id. omega arith)
    (record { heap = alike_itself (empty_heap settings); lost = λ id. refl; sizes = refl }) first.takes second.takes
    (rest_left first.mid new (rest_of lines text) first.ending first.ends left)
    (rest_left second.mid another (rest_of lines text) second.ending second.ends left_too) in
    let end = ends_with first.mid new another all.order.run (rest_of lines text) first.ending second.ending all.order.once all.order.alike
    first.ends (subst (λ (s : ReplayState). EndsWith TakesRest s (rest_of lines text) second.ending another) all.order.is second.ends) in
    let answers = all.same in
    let ending = end.same_text in
    let error = end.same_error in
    let order = end.order in
    let run_is : another.run ≡ order.run = ap (λ (s : ReplayState). s.run) order.is in
    record {
      same_output = second.output_is ∙ (λ i. answers_text (answers i) ++ ending i) ∙ sym first.output_is;
      same_error =
          second.error_is ∙ (λ i. list_any (λ (answer : Answer). answer.is_error) (answers i) || error i) ∙ sym first.error_is;
      alike = record {
        run = subst (λ (r : RunState). AreAlikeRuns new.run r) (sym run_is) order.alike;
        figures = ap figures_of order.is ∙ figures_same new order.run order.alike;
        rest = order.is ∙ ap (λ (r : RunState). re r new) (sym run_is);
      };
    }

-- ---- every trace has a replay that does not run out of memory

-- lines are still taken, if no refusal stops them
abbrev pub KeepsOn : (old new : ReplayState) → Type 0
KeepsOn old new = old.reading.is_strict ≡ false → old.progress ≡ Running → (new.progress ≡ Running) × (new.reading.is_strict ≡ false)

keeps-on : (reading : Reading) (refused : Bool) → reading.is_strict ≡ false → progress_after reading refused ≡ Running
keeps-on reading refused loose = ap (λ (strict : Bool). if strict && refused then Stopped else Running) loose

-- a line, or the trailing bytes, lead to a replay
pub record LeadsOn (old : ReplayState) (Takes : (text : List ℕ) → (is_error : Bool) → (new : ReplayState) → Type 0) : Type 0 where
  pub text : List ℕ
  pub is_error : Bool
  pub new : ReplayState
  pub takes : Takes text is_error new
  pub once : IsOnce new
  pub left : new.progress ≢ OutOfMemory
  pub runs : KeepsOn old new

not_out : (reading : Reading) (refused : Bool) → progress_after reading refused ≢ OutOfMemory
not_out reading refused = by_test (reading.is_strict && refused)
  where
    by_test : (b : Bool) → (if b then Stopped else Running) ≢ OutOfMemory
    by_test true e = cc
    by_test false e = cc

entry_leads : (old : ReplayState) (event : Result (Option Event) Refusal) → IsOnce old → old.progress ≢ OutOfMemory
    → LeadsOn old (TakesEntry replaying old event)
entry_leads old (Ok (Some event)) once left =
    let made = run_leads old.run event once in
    record {
      text = _;
      is_error = is_refused made.outcome;
      new = record old {
        run = made.new;
        counts = with_outcome made.outcome (with_counted_event event old.counts);
        time = time_after event old.time;
        progress = progress_after old.reading (is_refused made.outcome);
        is_sampled = is_due old.reading (with_counted_event event old.counts).events old.run.heap.totals.sweeps made.new.heap.totals.sweeps;
      };
      takes = inl (record {
        outcome = made.outcome;
        run = made.new;
        is_event = made.is;
        is_new = refl;
        error_is = refl;
        text_is = refl;
      });
      once = event_once old.run.heap event made.is.told made.new.heap once made.is.is_event;
      left = not_out old.reading (is_refused made.outcome);
      runs = λ loose running. (keeps-on old.reading (is_refused made.outcome) loose, loose);
    }
entry_leads old (Ok None) once left =
    record { text = []; is_error = false; new = old; takes = (refl, refl, refl); once = once; left = left; runs = λ loose running. (running, loose) }
entry_leads old (Err refusal) once left = record {
  text = [];
  is_error = true;
  new = record old { counts = with_refusal refusal old.counts; progress = progress_after old.reading true };
  takes = record { is_new = refl; error_is = refl; text_is = refl };
  once = once;
  left = not_out old.reading true;
  runs = λ loose running. (keeps-on old.reading true loose, loose);
}

pub line_leads : (old : ReplayState) (line : List ℕ) → IsOnce old → old.progress ≢ OutOfMemory → LeadsOn old (TakesLine old line)
line_leads old line once left = by_progress old.progress left
  where
    by_progress : (progress : Progress) → progress ≢ OutOfMemory → LeadsOn old (TakesLineIn replaying progress old line)
    by_progress Running runs =
        let made = entry_leads (at_entry (next_entry replaying old line) old) (next_entry replaying old line).event once left in
        record { text = made.text; is_error = made.is_error; new = made.new; takes = made.takes; once = made.once; left = made.left; runs = made.runs }
    by_progress Stopped runs = record { text = []; is_error = false; new = old; takes = (refl, refl, refl); once = once; left = left; runs = λ loose running. (running, loose) }
    by_progress OutOfMemory runs = absurd (runs refl)

pub rest_leads : (old : ReplayState) (rest : List ℕ) → IsOnce old → old.progress ≢ OutOfMemory
    → LeadsOn old (λ text is_error new. EndsWith TakesRest old rest (record { text = text; is_error = is_error }) new)
rest_leads old [] once left = record { text = []; is_error = false; new = old; takes = (refl, refl, refl); once = once; left = left; runs = λ loose running. (running, loose) }
rest_leads old (byte ∷ rest) once left = by_progress old.progress left
  where
    by_progress : (progress : Progress) → progress ≢ OutOfMemory → LeadsOn old (TakesRestIn replaying progress old (byte ∷ rest))
    by_progress Running runs = record {
      text = [];
      is_error = true;
      new = record (replaying.at_rest old) { counts = with_refusal Unfinished (replaying.at_rest old).counts; progress = progress_after old.reading true };
      takes = record { is_new = refl; error_is = refl; text_is = refl };
      once = once;
      left = not_out old.reading true;
      runs = λ loose running. (keeps-on old.reading true loose, loose);
    }
    by_progress Stopped runs = record { text = []; is_error = false; new = old; takes = (refl, refl, refl); once = once; left = left; runs = λ loose running. (running, loose) }
    by_progress OutOfMemory runs = absurd (runs refl)

record LeadsThrough (old : ReplayState) (entries : List (List ℕ)) : Type 0 where
  answers : List Answer
  new : ReplayState
  takes : AnswersAll TakesLine old entries answers new
  once : IsOnce new
  left : new.progress ≢ OutOfMemory
  runs : KeepsOn old new

lines_lead : (old : ReplayState) (entries : List (List ℕ)) → IsOnce old → old.progress ≢ OutOfMemory → LeadsThrough old entries
lines_lead old [] once left = record { answers = []; new = old; takes = refl; once = once; left = left; runs = λ loose running. (running, loose) }
lines_lead old (line ∷ entries) once left =
    let first = line_leads old line once left in
    let next = lines_lead first.new entries first.once first.left in
    record {
      answers = record { text = first.text; is_error = first.is_error } ∷ next.answers;
      new = next.new;
      takes = (first.new, first.takes, next.takes);
      once = next.once;
      left = next.left;
      runs = λ loose running. let after = first.runs loose running in next.runs after.1 after.0;
    }

pub record HasReplay (settings : Settings) (reading : Reading) (text : List ℕ) : Type 0 where
  pub output : List ℕ
  pub any_error : Bool
  pub new : ReplayState
  pub is : Output TakesLine TakesRest lines (begun (empty_run settings) reading) text output any_error new
  pub left : new.progress ≢ OutOfMemory
  pub runs : reading.is_strict ≡ false → new.progress ≡ Running

pub some_replay : (settings : Settings) (reading : Reading) (text : List ℕ) → HasReplay settings reading text
some_replay settings reading text =
    let all = lines_lead (begun (empty_run settings) reading) (entries_of lines text) (λ id. omega arith) runs in
    let end = rest_leads all.new (rest_of lines text) all.once all.left in
    record {
      output = answers_text all.answers ++ end.text;
      any_error = list_any (λ (answer : Answer). answer.is_error) all.answers || end.is_error;
      new = end.new;
      is = record {
        answers = all.answers;
        mid = all.new;
        takes = all.takes;
        ending = record { text = end.text; is_error = end.is_error };
        ends = end.takes;
        output_is = refl;
        error_is = refl;
      };
      left = end.left;
      runs = λ loose. let after = all.runs loose refl in (end.runs after.1 after.0).0;
    }
  where
    runs : Running ≢ OutOfMemory
    runs e = cc
