-- The script of a trace: the lines of the operations that its changes are, written while its lines are taken.
use Rattle.std.specs.Prelude.{◌≡◌, ◌≤◌, ◌⊎◌, ℕ, Bool, true, false, ◌-◌, ◌^◌, ◌&&◌, ◌||◌, nat_lt, is_none, List, [], Option, None}
use Rattle.std.specs.List.{AllByRecursion}
use Rattle.cc_heap.specs.declared.event.Event.{Event}
use Rattle.cc_heap.specs.declared.outcome.Outcome.{Outcome}
use Rattle.cc_heap.specs.declared.settings.Settings.{Settings}
use Rattle.cc_heap.specs.Events.{IsEvent}
use Rattle.cc_heap.specs.Heap.{Heap, empty_heap}
use Rattle.cc_replay.specs.declared.reading.Progress.{Progress}
use Rattle.cc_replay.specs.declared.reading.Progress.TheVariants.{Running, Stopped, OutOfMemory}
use Rattle.cc_replay.specs.declared.reading.Reading.{Reading}
use Rattle.cc_replay.specs.Reading.{progress_after}
use Rattle.cc_heap.specs.Outcomes.{is_refused}
use Rattle.cc_replay.specs.Changes.{CanBePlanned, Change, Changes, asks_for_unit, objects_made}
use Rattle.cc_replay.specs.Operations.{numbers_after, operation_lines, operations_of}
use Rattle.cc_replay.specs.Taking.{Taker, TakesLineIn, TakesRestIn}
use Rattle.cc_replay.specs.Deeds.{NumberedIds, asked_entry, numbers_of}

-- The state of a script: the heap, how the trace is read, the pointer of the first half of a reallocation whose second
-- half has not come, the numbers of objects, and whether further lines are taken.
pub record ScriptState : Type 0 where
  pub heap : Heap
  pub reading : Reading
  pub pending : Option ℕ
  pub ids : NumberedIds
  pub progress : Progress

-- A script before the first line of a trace.
abbrev pub script_begun : Settings → Reading → ScriptState
script_begun settings reading = record {
  heap = empty_heap settings;
  reading = reading;
  pending = None;
  ids = record { made = 0; entries = [] };
  progress = Running;
}

-- The number of objects that a machine of `plan` with 65,536 slots can make.
abbrev pub most_objects : ℕ
most_objects = 65533

-- Whether a script can have the changes of an event: an alignment that it requests is at most the unit of its size, the
-- machine can make its object, and sweeps are still counted.
abbrev pub can_have : ScriptState → Event → Bool
can_have state event =
    asks_for_unit state.heap.settings.align event
    && ((is_none (asked_entry event) || nat_lt state.ids.made most_objects) && nat_lt state.heap.totals.sweeps (2 ^ 64 - 4))

-- ScriptsEvent holds if the event happens to the heap, and the lines of the operations of its changes are written, in
-- which each object has its number.
pub record ScriptsEvent (old : ScriptState) (event : Event) (text : List ℕ) (is_error : Bool) (new : ScriptState) : Type 0 where
  pub outcome : Outcome
  pub heap : Heap
  pub ids : NumberedIds
  pub changes : List Change
  pub can : can_have old event ≡ true
  pub is_event : IsEvent old.heap event outcome heap
  pub are : Changes old.heap changes heap
  pub plannable : AllByRecursion (CanBePlanned old.heap.settings.align) (objects_made changes)
  pub numbers : numbers_of ids ≡ numbers_after (numbers_of old.ids) changes
  pub few : old.ids.made ≤ most_objects → ids.made ≤ most_objects
  pub is_new : new ≡ record old { heap = heap; ids = ids; progress = progress_after old.reading (is_refused outcome) }
  pub error_is : is_error ≡ is_refused outcome
  pub text_is : text ≡ operation_lines (operations_of old.heap.settings.policy (numbers_of old.ids) changes)

-- EndsBefore holds if the script cannot have the event. It ends before it.
pub record EndsBefore (old : ScriptState) (event : Event) (text : List ℕ) (is_error : Bool) (new : ScriptState) : Type 0 where
  pub cannot : can_have old event ≡ false
  pub is_new : new ≡ record old { progress = Stopped }
  pub error_is : is_error ≡ true
  pub text_is : text ≡ []

-- EndsOutOfMemory holds if memory ran out in an event: nothing is written, and no further line is taken.
pub record EndsOutOfMemory (old : ScriptState) (text : List ℕ) (is_error : Bool) (new : ScriptState) : Type 0 where
  pub progress : new.progress ≡ OutOfMemory
  pub error_is : is_error ≡ false
  pub text_is : text ≡ []

-- The script as a taker of events.
abbrev pub scripting : Taker ScriptState
scripting = record {
  format = λ state. state.reading.format;
  pending = λ state. state.pending;
  progress = λ state. state.progress;
  at_entry = λ entry state. record state { pending = entry.pending };
  at_rest = λ state. state;
  refused = λ refusal old. record old { progress = progress_after old.reading true };
  takes_event = λ old event text is_error new.
      ScriptsEvent old event text is_error new ⊎ (EndsBefore old event text is_error new ⊎ EndsOutOfMemory old text is_error new);
}

-- ScriptsLine holds if a line is taken, unless no further line is.
abbrev pub ScriptsLine : (old : ScriptState) → (line text : List ℕ) → (is_error : Bool) → (new : ScriptState) → Type 0
ScriptsLine old = TakesLineIn scripting old.progress old

-- ScriptsRest holds if trailing bytes are refused, unless no further line is taken.
abbrev pub ScriptsRest : (old : ScriptState) → (rest text : List ℕ) → (is_error : Bool) → (new : ScriptState) → Type 0
ScriptsRest old = TakesRestIn scripting old.progress old
