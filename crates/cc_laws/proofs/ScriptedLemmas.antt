-- The output for a trace is the script of the first of its events.
use Rattle.std.proofs.Common.{ℕ, Bool, ◌≡◌, ◌≢◌, ◌+◌, ◌≤◌, List, [], ◌∷◌, ◌++◌, length, Option, Some, None, Result, Ok, Err, arith, refl, sym, ap, subst, ◌∙◌, inl, inr}
use Rattle.std.specs.List.{AllByRecursion}
use Rattle.std.proofs.lemmas.List.{append_assoc, append-nil}
use Rattle.cc_word.specs.declared.refusal.Refusal.{Refusal}
use Rattle.cc_io.specs.Answers.{Answer, AnswersAll, EndsWith, Output, answers_text, entries_of, rest_of}
use Rattle.cc_io.specs.Frames.{lines}
use Rattle.cc_io.specs.Lines.{lines_of}
use Rattle.cc_heap.specs.declared.event.Event.{Event}
use Rattle.cc_heap.specs.declared.settings.Settings.{Settings}
use Rattle.cc_heap.specs.Events.{IsEvent}
use Rattle.cc_heap.specs.Heap.{Heap}
use Rattle.cc_replay.specs.declared.formats.Entry.{Entry}
use Rattle.cc_replay.specs.declared.reading.Progress.{Progress}
use Rattle.cc_replay.specs.declared.reading.Progress.TheVariants.{Running, Stopped, OutOfMemory}
use Rattle.cc_replay.specs.declared.reading.Reading.{Reading}
use Rattle.cc_replay.specs.Replay.{event_before, events_in}
use Rattle.cc_replay.specs.Changes.{AreChangesOf, CanBePlanned, Change, Changes, IsChange, objects_made}
use Rattle.cc_replay.specs.Changes.Change.{Make as MakeOne, Free as FreeOne, Replace as ReplaceOne, Sweep as SweepAll}
use Rattle.cc_replay.specs.Operations.{Numbers, no_numbers, numbers_after, operation_lines, operations_of, with_number}
use Rattle.cc_replay.specs.Deeds.{numbers_of}
use Rattle.cc_replay.specs.Script.{ScriptState, ScriptsLine, ScriptsRest, most_objects, script_begun, scripting}
use Rattle.cc_replay.specs.Taking.{TakesEntry, TakesLineIn, TakesRestIn, next_entry}
use Rattle.cc_replay.proofs.HistoryLemmas.{all_joined, joined, numbers_joined, objects_joined, operations_joined}
use Rattle.cc_replay.proofs.LineLemmas.{lines_joined}
use Rattle.cc_laws.specs.Translation.{HasScript}
use Rattle.cc_laws.proofs.SeenLemmas.{events_seen}

-- the taken events have changes that lead from one state to another, and the text is the lines of their operations
record HasPart (old : ScriptState) (taken : List Event) (text : List ℕ) (new : ScriptState) : Type 0 where
  changes : List Change
  of_events : AreChangesOf old.heap taken changes new.heap
  are : Changes old.heap changes new.heap
  settings : new.heap.settings ≡ old.heap.settings
  plannable : AllByRecursion (CanBePlanned old.heap.settings.align) (objects_made changes)
  numbers : numbers_of new.ids ≡ numbers_after (numbers_of old.ids) changes
  few : old.ids.made ≤ most_objects → new.ids.made ≤ most_objects
  text_is : text ≡ operation_lines (operations_of old.heap.settings.policy (numbers_of old.ids) changes)

-- if memory did not run out, it had not before, and the first of the events are taken: none from a stopped state, and
-- all if lines are still taken
record IsPart (old : ScriptState) (events : List Event) (text : List ℕ) (new : ScriptState) : Type 0 where
  had_memory : old.progress ≢ OutOfMemory
  taken : List Event
  left : List Event
  in_order : events ≡ taken ++ left
  all : new.progress ≡ Running → left ≡ []
  was_running : new.progress ≡ Running → old.progress ≡ Running
  halted : old.progress ≡ Stopped → taken ≡ []
  part : HasPart old taken text new

-- ---- changes keep the settings

pub change_settings : (old : Heap) (change : Change) (new : Heap) → IsChange old change new → new.settings ≡ old.settings
change_settings old (MakeOne id object) new (none, made) = ap (λ (h : Heap). h.settings) made.makes.is_new
change_settings old (FreeOne id object) new freed = ap (λ (h : Heap). h.settings) freed.is_new
change_settings old (ReplaceOne id before object) new is =
    ap (λ (h : Heap). h.settings) is.frees.is_new ∙ ap (λ (h : Heap). h.settings) is.makes.makes.is_new
change_settings old SweepAll new is = ap (λ (h : Heap). h.settings) is

changes_settings : (old : Heap) (changes : List Change) (new : Heap) → Changes old changes new → new.settings ≡ old.settings
changes_settings old [] new is = ap (λ (h : Heap). h.settings) is
changes_settings old (change ∷ changes) new (next, is, are) =
    changes_settings next changes new are ∙ change_settings old change next is

-- as many numbers are given as objects are made
pub numbers_count : (numbers : Numbers) (changes : List Change)
    → (numbers_after numbers changes).made ≡ numbers.made + length (objects_made changes)
numbers_count numbers [] = omega arith
numbers_count numbers (MakeOne id object ∷ changes) =
    let rest = numbers_count (with_number numbers id) changes in
    omega (arith, rest)
numbers_count numbers (ReplaceOne id before object ∷ changes) =
    let rest = numbers_count (with_number numbers id) changes in
    omega (arith, rest)
numbers_count numbers (FreeOne id object ∷ changes) = numbers_count numbers changes
numbers_count numbers (SweepAll ∷ changes) = numbers_count numbers changes

-- ---- parts

-- the changes of events, and then those of others
of_joined : (old between new : Heap) (events others : List Event) (changes more : List Change) → AreChangesOf old events changes between
    → AreChangesOf between others more new → AreChangesOf old (events ++ others) (changes ++ more) new
of_joined old between new [] others changes more (none, is) rest =
    subst (λ (cs : List Change). AreChangesOf old others (cs ++ more) new) (sym none)
    (subst (λ (h : Heap). AreChangesOf h others more new) is rest)
of_joined old between new (event ∷ events) others changes more (mine, later, outcome, next, are, happens, lead, after) rest = (
  mine,
  later ++ more,
  outcome,
  next,
  ap (λ (cs : List Change). cs ++ more) are ∙ append_assoc mine later more,
  happens,
  lead,
  of_joined next between new events others later more after rest,
)

part_joined : (old mid new : ScriptState) (events others : List Event) (text more : List ℕ) → HasPart old events text mid
    → HasPart mid others more new → HasPart old (events ++ others) (text ++ more) new
part_joined old mid new events others text more first other = record {
  changes = first.changes ++ other.changes;
  of_events = of_joined old.heap mid.heap new.heap events others first.changes other.changes first.of_events other.of_events;
  are = joined old.heap mid.heap new.heap first.changes other.changes first.are other.are;
  settings = other.settings ∙ first.settings;
  plannable = subst (AllByRecursion (CanBePlanned old.heap.settings.align)) (sym (objects_joined first.changes other.changes))
      (all_joined old.heap.settings.align (objects_made first.changes) (objects_made other.changes) first.plannable
      (subst (λ (s : Settings). AllByRecursion (CanBePlanned s.align) (objects_made other.changes)) first.settings other.plannable));
  numbers = other.numbers ∙ ap (λ (n : Numbers). numbers_after n other.changes) first.numbers
      ∙ sym (numbers_joined (numbers_of old.ids) first.changes other.changes);
  few = λ before. other.few (first.few before);
  text_is = ap (λ (t : List ℕ). t ++ more) first.text_is
      ∙ ap (λ (t : List ℕ). operation_lines (operations_of old.heap.settings.policy (numbers_of old.ids) first.changes) ++ t)
      (other.text_is
      ∙ ap (λ (s : Settings). operation_lines (operations_of s.policy (numbers_of mid.ids) other.changes)) first.settings
      ∙ ap (λ (n : Numbers). operation_lines (operations_of old.heap.settings.policy n other.changes)) first.numbers)
      ∙ sym (lines_joined (operations_of old.heap.settings.policy (numbers_of old.ids) first.changes)
      (operations_of old.heap.settings.policy (numbers_after (numbers_of old.ids) first.changes) other.changes))
      ∙ ap operation_lines (sym (operations_joined old.heap.settings.policy (numbers_of old.ids) first.changes other.changes));
}

-- no event is taken, and nothing is written
same_part : (old new : ScriptState) (text : List ℕ) → text ≡ [] → new.heap ≡ old.heap → numbers_of new.ids ≡ numbers_of old.ids
    → HasPart old [] text new
same_part old new text none same_heap same_numbers = record {
  changes = [];
  of_events = (refl, same_heap);
  are = same_heap;
  settings = ap (λ (h : Heap). h.settings) same_heap;
  plannable = tt;
  numbers = same_numbers;
  few = λ before.
      (let same : new.ids.made ≡ old.ids.made = ap (λ (n : Numbers). n.made) same_numbers in
      omega (arith, same, before));
  text_is = none;
}

passed : (old new : ScriptState) (text : List ℕ) → text ≡ [] → new ≡ old → HasPart old [] text new
passed old new text none is =
    same_part old new text none (ap (λ (s : ScriptState). s.heap) is) (ap (λ (s : ScriptState). numbers_of s.ids) is)

running_has : (state : ScriptState) → state.progress ≡ Running → state.progress ≢ OutOfMemory
running_has state runs out = never (sym runs ∙ out)
  where
    never : Running ≡ OutOfMemory → ⊥
    never e = cc

-- ---- a line

-- a state that runs has not stopped
not_stopped : (state : ScriptState) → state.progress ≡ Running → state.progress ≡ Stopped → ⊥
not_stopped state runs stops = never (sym runs ∙ stops)
  where
    never : Running ≡ Stopped → ⊥
    never e = cc

-- these events are taken, and the part that follows
goes : (old mid new : ScriptState) (mine events : List Event) (text more : List ℕ) → old.progress ≡ Running → HasPart old mine text mid
    → IsPart mid events more new → IsPart old (mine ++ events) (text ++ more) new
goes old mid new mine events text more runs first others = record {
  had_memory = running_has old runs;
  taken = mine ++ others.taken;
  left = others.left;
  in_order = ap (λ (es : List Event). mine ++ es) others.in_order ∙ sym (append_assoc mine others.taken others.left);
  all = others.all;
  was_running = λ running. runs;
  halted = λ stops. absurd (not_stopped old runs stops);
  part = part_joined old mid new mine others.taken text more first others.part;
}

-- no event is taken from here on
halts : (old mid new : ScriptState) (events others : List Event) (text more : List ℕ) → old.progress ≢ OutOfMemory → mid.progress ≡ Stopped
    → HasPart old [] text mid → IsPart mid others more new → IsPart old events (text ++ more) new
halts old mid new events others text more has_memory stops first later = record {
  had_memory = has_memory;
  taken = later.taken;
  left = events;
  in_order = sym (ap (λ (es : List Event). es ++ events) (later.halted stops));
  all = λ running. absurd (not_stopped mid (later.was_running running) stops);
  was_running = λ running. absurd (not_stopped mid (later.was_running running) stops);
  halted = λ stopped. later.halted stops;
  part = part_joined old mid new [] later.taken text more first later.part;
}

-- the events of lines in the format of a state, after the half of a reallocation that is pending in it
abbrev events_from : ScriptState → (entries : List (List ℕ)) → List Event
events_from state entries = events_in state.reading.format state.pending entries

-- the part after a line of this entry, by the events in the format of the state before it
read_on : (old mid new : ScriptState) (entry : Entry) (entries : List (List ℕ)) (text : List ℕ) → mid.reading ≡ old.reading
    → mid.pending ≡ entry.pending → IsPart mid (events_from mid entries) text new
    → IsPart mid (events_in old.reading.format entry.pending entries) text new
read_on old mid new entry entries text reading pending later =
    subst (λ (events : List Event). IsPart mid events text new)
    (ap (λ (r : Reading). events_in r.format mid.pending entries) reading
    ∙ ap (λ (p : Option ℕ). events_in old.reading.format p entries) pending) later

entry_part : (old mid new : ScriptState) (entry : Entry) (event : Result (Option Event) Refusal) (text more : List ℕ) (is_error : Bool)
    (entries : List (List ℕ)) → old.progress ≡ Running → TakesEntry scripting (scripting.at_entry entry old) event text is_error mid
    → IsPart mid (events_from mid entries) more new
    → IsPart old (event_before event (events_in old.reading.format entry.pending entries)) (text ++ more) new
entry_part old mid new entry (Ok (Some event)) text more is_error entries runs (inl taken) later =
    goes old mid new (event ∷ []) (events_in old.reading.format entry.pending entries) text more runs first
    (read_on old mid new entry entries more (ap (λ (s : ScriptState). s.reading) taken.is_new)
    (ap (λ (s : ScriptState). s.pending) taken.is_new) later)
  where
    heap_is : mid.heap ≡ taken.heap
    heap_is = ap (λ (s : ScriptState). s.heap) taken.is_new

    first : HasPart old (event ∷ []) text mid
    first = record {
      changes = taken.changes;
      of_events = (
        taken.changes,
        [],
        taken.outcome,
        mid.heap,
        sym (append-nil taken.changes),
        subst (λ (h : Heap). IsEvent old.heap event taken.outcome h) (sym heap_is) taken.is_event,
        subst (λ (h : Heap). Changes old.heap taken.changes h) (sym heap_is) taken.are,
        (refl, refl),
      );
      are = subst (λ (h : Heap). Changes old.heap taken.changes h) (sym heap_is) taken.are;
      settings = ap (λ (h : Heap). h.settings) heap_is ∙ changes_settings old.heap taken.changes taken.heap taken.are;
      plannable = taken.plannable;
      numbers = ap (λ (s : ScriptState). numbers_of s.ids) taken.is_new ∙ taken.numbers;
      few = λ before.
          (let same : mid.ids.made ≡ taken.ids.made = ap (λ (s : ScriptState). s.ids.made) taken.is_new in
          let few = taken.few before in
          omega (arith, same, few));
      text_is = taken.text_is;
    }
entry_part old mid new entry (Ok (Some event)) text more is_error entries runs (inr (inl ends)) later =
    halts old mid new (event ∷ events_in old.reading.format entry.pending entries) (events_from mid entries) text more
    (running_has old runs) (ap (λ (s : ScriptState). s.progress) ends.is_new)
    (same_part old mid text ends.text_is (ap (λ (s : ScriptState). s.heap) ends.is_new) (ap (λ (s : ScriptState). numbers_of s.ids) ends.is_new))
    later
entry_part old mid new entry (Ok (Some event)) text more is_error entries runs (inr (inr out)) later =
    absurd (later.had_memory out.progress)
entry_part old mid new entry (Ok None) text more is_error entries runs (none, no_error, is) later =
    goes old mid new [] (events_in old.reading.format entry.pending entries) text more runs
    (same_part old mid text none (ap (λ (s : ScriptState). s.heap) is) (ap (λ (s : ScriptState). numbers_of s.ids) is))
    (read_on old mid new entry entries more (ap (λ (s : ScriptState). s.reading) is) (ap (λ (s : ScriptState). s.pending) is) later)
entry_part old mid new entry (Err refusal) text more is_error entries runs refused later =
    goes old mid new [] (events_in old.reading.format entry.pending entries) text more runs
    (same_part old mid text refused.text_is (ap (λ (s : ScriptState). s.heap) refused.is_new)
    (ap (λ (s : ScriptState). numbers_of s.ids) refused.is_new))
    (read_on old mid new entry entries more (ap (λ (s : ScriptState). s.reading) refused.is_new)
    (ap (λ (s : ScriptState). s.pending) refused.is_new) later)

line_part : (old mid new : ScriptState) (line text more : List ℕ) (is_error : Bool) (entries : List (List ℕ))
    → ScriptsLine old line text is_error mid → IsPart mid (events_from mid entries) more new
    → IsPart old (events_from old (line ∷ entries)) (text ++ more) new
line_part old mid new line text more is_error entries taken later = by old.progress refl taken
  where
    by : (progress : Progress) → old.progress ≡ progress → TakesLineIn scripting progress old line text is_error mid
        → IsPart old (events_from old (line ∷ entries)) (text ++ more) new
    by Running runs next =
        entry_part old mid new (next_entry scripting old line) (next_entry scripting old line).event text more is_error entries runs next later
    by Stopped stops (none, no_error, is) =
        let stopped : mid.progress ≡ Stopped = ap (λ (s : ScriptState). s.progress) is ∙ stops in
        halts old mid new (events_from old (line ∷ entries)) (events_from mid entries) text more
        (λ out. later.had_memory (ap (λ (s : ScriptState). s.progress) is ∙ out)) stopped (passed old mid text none is) later
    by OutOfMemory out (none, no_error, is) = absurd (later.had_memory (ap (λ (s : ScriptState). s.progress) is ∙ out))

-- ---- lines, and trailing bytes

answers_part : (old : ScriptState) (entries : List (List ℕ)) (answers : List Answer) (new : ScriptState)
    → AnswersAll ScriptsLine old entries answers new → new.progress ≢ OutOfMemory
    → IsPart old (events_from old entries) (answers_text answers) new
answers_part old [] [] new is has_memory = record {
  had_memory = λ out. has_memory (ap (λ (s : ScriptState). s.progress) is ∙ out);
  taken = [];
  left = [];
  in_order = refl;
  all = λ running. refl;
  was_running = λ running. sym (ap (λ (s : ScriptState). s.progress) is) ∙ running;
  halted = λ stops. refl;
  part = passed old new [] refl is;
}
answers_part old (entry ∷ entries) (answer ∷ answers) new (mid, one, rest) has_memory =
    line_part old mid new entry answer.text (answers_text answers) answer.is_error entries one
    (answers_part mid entries answers new rest has_memory)
answers_part old [] (answer ∷ answers) new never has_memory = absurd never
answers_part old (entry ∷ entries) [] new never has_memory = absurd never

-- trailing bytes have no event
record IsEnd (old : ScriptState) (text : List ℕ) (new : ScriptState) : Type 0 where
  had_memory : old.progress ≢ OutOfMemory
  was_running : new.progress ≡ Running → old.progress ≡ Running
  part : HasPart old [] text new

passed_end : (old new : ScriptState) (text : List ℕ) → text ≡ [] → new ≡ old → new.progress ≢ OutOfMemory → IsEnd old text new
passed_end old new text none is has_memory = record {
  had_memory = λ out. has_memory (ap (λ (s : ScriptState). s.progress) is ∙ out);
  was_running = λ running. sym (ap (λ (s : ScriptState). s.progress) is) ∙ running;
  part = passed old new text none is;
}

rest_part : (old : ScriptState) (rest : List ℕ) (ending : Answer) (new : ScriptState) → EndsWith ScriptsRest old rest ending new
    → new.progress ≢ OutOfMemory → IsEnd old ending.text new
rest_part old [] ending new (none, no_error, is) has_memory = passed_end old new ending.text none is has_memory
rest_part old (byte ∷ rest) ending new taken has_memory = by old.progress refl taken
  where
    by : (progress : Progress) → old.progress ≡ progress
        → TakesRestIn scripting progress old (byte ∷ rest) ending.text ending.is_error new → IsEnd old ending.text new
    by Running runs refused = record {
      had_memory = running_has old runs;
      was_running = λ running. runs;
      part = same_part old new ending.text refused.text_is (ap (λ (s : ScriptState). s.heap) refused.is_new)
          (ap (λ (s : ScriptState). numbers_of s.ids) refused.is_new);
    }
    by Stopped stops (none, no_error, is) = passed_end old new ending.text none is has_memory
    by OutOfMemory out (none, no_error, is) = passed_end old new ending.text none is has_memory

-- ---- a whole trace

pub output_is_script : (settings : Settings) (reading : Reading) (new : ScriptState) (text output : List ℕ) (any_error : Bool)
    → Output ScriptsLine ScriptsRest lines (script_begun settings reading) text output any_error new
    → new.progress ≢ OutOfMemory
    → HasScript settings (events_in reading.format None (lines_of text)) new.progress output new.heap
output_is_script settings reading new text output any_error is has_memory =
    let last = rest_part is.mid (rest_of lines text) is.ending new is.ends has_memory in
    let first = answers_part (script_begun settings reading) (entries_of lines text) is.answers is.mid is.takes last.had_memory in
    let whole = part_joined (script_begun settings reading) is.mid new first.taken [] (answers_text is.answers) is.ending.text
    first.part last.part in
    record {
      taken = first.taken ++ [];
      left = first.left;
      in_order = sym (events_seen reading.format None (lines_of text)) ∙ first.in_order ∙ sym (append_assoc first.taken [] first.left);
      all = λ running. first.all (last.was_running running);
      changes = whole.changes;
      of_events = whole.of_events;
      are = whole.are;
      plannable = whole.plannable;
      few = (let made : new.ids.made ≡ (numbers_after no_numbers whole.changes).made = ap (λ (n : Numbers). n.made) whole.numbers in
          let count = numbers_count no_numbers whole.changes in
          let none : 0 ≤ most_objects = omega arith in
          let few = whole.few none in
          omega (arith, made, count, few));
      output_is = is.output_is ∙ whole.text_is;
    }
