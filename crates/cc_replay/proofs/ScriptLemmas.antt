-- An event that a script takes.
use Rattle.std.proofs.Common.{ℕ, Bool, true, false, ◌≡◌, ◌+◌, ◌-◌, ◌<◌, ◌≤◌, ◌^◌, ◌&&◌, ◌||◌, nat_lt, List, [], ◌++◌, Option, None, Some, IfSome, if◌then◌else◌, is_none, arith, refl, sym, ap}
use Rattle.std.proofs.Common.{subst, ◌∙◌, inl, inr}
use Rattle.std.proofs.lemmas.Bool.Decides.{nat_tests}
use Rattle.std.proofs.lemmas.List.{append-nil}
use Rattle.std.proofs.lemmas.List.Elements.{All-nil}
use Rattle.cc_bounds.specs.declared.align.Align.{Align}
use Rattle.cc_heap.specs.declared.event.Event.{Event}
use Rattle.cc_heap.specs.declared.event.Event.TheVariants.{Allocate, Clear, Reallocate, Free, Sweep, Clock}
use Rattle.cc_heap.specs.declared.outcome.Outcome.{Outcome}
use Rattle.cc_heap.specs.declared.reallocation.Reallocation.TheVariants.{Move}
use Rattle.cc_heap.specs.declared.settings.Settings.{Settings}
use Rattle.cc_heap.specs.Events.{FailsInEvent, FailsToMake, IsEvent, IsSweptOrNot}
use Rattle.cc_heap.specs.Heap.{Heap, empty_heap}
use Rattle.cc_io.specs.Answers.{AnswersInto}
use Rattle.cc_replay.specs.declared.formats.Entry.{Entry}
use Rattle.cc_replay.specs.declared.reading.Progress.TheVariants.{Stopped, OutOfMemory}
use Rattle.cc_replay.specs.Reading.{is_over, progress_after}
use Rattle.cc_heap.specs.Outcomes.{is_refused}
use Rattle.cc_replay.specs.declared.deeds.Deeds.{Deeds}
use Rattle.cc_replay.specs.declared.deeds.MadeEntry.{MadeEntry}
use Rattle.cc_replay.specs.Changes.{AsksForUnit, asks_for_unit}
use Rattle.cc_replay.specs.Operations.{Numbers, operation_lines}
use Rattle.cc_replay.specs.Deeds.{DoesDeeds, NumberedIds, asked_entry, deed_operations, numbers_of, numbers_with, told_deeds, was_made}
use Rattle.cc_replay.specs.Kept.{HasBytes, IsKept}
use Rattle.cc_replay.specs.Script.{ScriptState, ScriptsLine, ScriptsRest, can_have, most_objects, scripting}
use Rattle.cc_replay.specs.Taking.{AppendsEntry, AppendsEvent, RefusesEntry, next_entry}
use Rattle.cc_replay.proofs.TakingLemmas.{entry_answers, rest_answers}
use Rattle.cc_word.specs.declared.refusal.Refusal.TheVariants.{Unfinished}
use Rattle.cc_replay.proofs.HistoryLemmas.{HasDeeds, clears, event_deeds}

-- a heap that held nothing
pub kept_empty : (settings : Settings) → settings.realloc ≡ Move → IsKept (empty_heap settings)
kept_empty settings moves = record { once = λ id. few; some = All-nil HasBytes; moves = moves }
  where
    few : 0 ≤ 1
    few = omega arith

-- a heap after an event for which an allocation fails
swept_kept : (old new : Heap) → IsKept old → IsSweptOrNot old new → IsKept new
swept_kept old new kept (inl is) = subst IsKept (sym is) kept
swept_kept old new kept (inr is) = subst IsKept (sym is) (record { once = kept.once; some = kept.some; moves = kept.moves })

make_kept : (old new : Heap) (id : ℕ) → IsKept old → FailsToMake old id new → IsKept new
make_kept old new id kept is =
    let cleared = clears old is.cleared id is.was_live kept is.clears in
    swept_kept is.cleared new cleared.history.kept is.sweeps

pub failed_kept : (old new : Heap) (event : Event) → IsKept old → FailsInEvent old event new → IsKept new
failed_kept old new (Allocate id size align) kept is = make_kept old new id kept is
failed_kept old new (Clear id size) kept is = make_kept old new id kept is
failed_kept old new (Reallocate from to size) kept (inl (one, live, is)) = swept_kept old new kept is
failed_kept old new (Reallocate from to size) kept (inr is) = make_kept old new to kept is
failed_kept old new (Free id) kept is = absurd is
failed_kept old new Sweep kept is = absurd is
failed_kept old new (Clock time) kept is = absurd is

-- what a script can have
unit_asked : (align : Align) (event : Event) → asks_for_unit align event ≡ true → AsksForUnit align event
unit_asked align (Allocate id size requested) is = grind (arith, nat_tests)
unit_asked align (Clear id size) is = tt
unit_asked align (Reallocate from to size) is = tt
unit_asked align (Free id) is = tt
unit_asked align Sweep is = tt
unit_asked align (Clock time) is = tt

first_true : (a b : Bool) → (a && b) ≡ true → a ≡ true
first_true true b is = refl
first_true false b is = is

second_true : (a b : Bool) → (a && b) ≡ true → b ≡ true
second_true true b is = is
second_true false b is = absurd (never is)
  where
    never : false ≡ true → ⊥
    never e = cc

counted : (state : ScriptState) (event : Event) → can_have state event ≡ true → state.heap.totals.sweeps + 3 < 2 ^ 64
counted state event is =
    let rest : ((is_none (asked_entry event) || nat_lt state.ids.made most_objects) && nat_lt state.heap.totals.sweeps (2 ^ 64 - 4)) ≡ true =
    second_true (asks_for_unit state.heap.settings.align event)
    ((is_none (asked_entry event) || nat_lt state.ids.made most_objects) && nat_lt state.heap.totals.sweeps (2 ^ 64 - 4)) is in
    let test : nat_lt state.heap.totals.sweeps (2 ^ 64 - 4) ≡ true =
    second_true (is_none (asked_entry event) || nat_lt state.ids.made most_objects) (nat_lt state.heap.totals.sweeps (2 ^ 64 - 4)) rest in
    below state.heap.totals.sweeps test
  where
    below : (n : ℕ) → nat_lt n (2 ^ 64 - 4) ≡ true → n + 3 < 2 ^ 64
    below n test = grind (arith, nat_tests)

pub deeds_had : (state : ScriptState) (event : Event) (outcome : Outcome) (heap : Heap) → IsKept state.heap
    → can_have state event ≡ true → IsEvent state.heap event outcome heap
    → HasDeeds state.heap heap (told_deeds state.heap event outcome heap)
deeds_had state event outcome heap kept can is =
    event_deeds state.heap heap event outcome kept
    (unit_asked state.heap.settings.align event (first_true (asks_for_unit state.heap.settings.align event)
    ((is_none (asked_entry event) || nat_lt state.ids.made most_objects) && nat_lt state.heap.totals.sweeps (2 ^ 64 - 4)) can))
    is (counted state event can)

-- an object is made only where a number is left
number_left : (was : Bool) (asked : Option MadeEntry) (made : ℕ) → (is_none asked || nat_lt made most_objects) ≡ true
    → IfSome (if was then asked else None) (λ _. made < most_objects)
number_left true (Some entry) made is = grind (arith, nat_tests)
number_left true None made is = tt
number_left false asked made is = tt

pub made_few : (state : ScriptState) (event : Event) (outcome : Outcome) (heap : Heap) (deeds : Deeds) → can_have state event ≡ true
    → deeds ≡ told_deeds state.heap event outcome heap → IfSome deeds.made (λ _. state.ids.made < most_objects)
made_few state event outcome heap deeds can deeds_are =
    subst (λ (d : Deeds). IfSome d.made (λ _. state.ids.made < most_objects)) (sym deeds_are)
    (number_left (was_made outcome.making) (asked_entry event) state.ids.made
    (first_true (is_none (asked_entry event) || nat_lt state.ids.made most_objects) (nat_lt state.heap.totals.sweeps (2 ^ 64 - 4))
    (second_true (asks_for_unit state.heap.settings.align event)
    ((is_none (asked_entry event) || nat_lt state.ids.made most_objects) && nat_lt state.heap.totals.sweeps (2 ^ 64 - 4)) can)))

-- a script ends before an event that it cannot have, or where memory runs out
pub event_ends : {new : ScriptState} (old : ScriptState) (event : Event) (out : List ℕ) → can_have old event ≡ false
    → new ≡ record old { progress = Stopped } → AppendsEvent scripting old event out out true new
event_ends old event out cannot is_new = record {
  text = [];
  out_is = sym (append-nil out);
  takes = inr (inl (record { cannot = cannot; is_new = is_new; error_is = refl; text_is = refl }));
}

pub event_runs_out : {new : ScriptState} (old : ScriptState) (event : Event) (out : List ℕ)
    → new.progress ≡ OutOfMemory → AppendsEvent scripting old event out out false new
event_runs_out old event out progress = record {
  text = [];
  out_is = sym (append-nil out);
  takes = inr (inr (record { progress = progress; error_is = refl; text_is = refl }));
}

-- an event that happened
pub happened_kept : (state : ScriptState) (was : Heap) (event : Event) (outcome : Outcome) (heap : Heap) → state.heap ≡ was → IsKept was
    → can_have state event ≡ true → IsEvent was event outcome heap → IsKept heap
happened_kept state was event outcome heap same_heap kept can is =
    (deeds_had state event outcome heap (subst IsKept (sym same_heap) kept) can
    (subst (λ (h : Heap). IsEvent h event outcome heap) (sym same_heap) is)).history.kept

pub happened_deeds : (state : ScriptState) (was : Heap) (event : Event) (outcome : Outcome) (heap : Heap) (deeds : Deeds)
    → state.heap ≡ was → IsKept was → can_have state event ≡ true → IsEvent was event outcome heap
    → deeds ≡ told_deeds was event outcome heap → DoesDeeds state.heap deeds heap
happened_deeds state was event outcome heap deeds same_heap kept can is deeds_are =
    let has = deeds_had state event outcome heap (subst IsKept (sym same_heap) kept) can
    (subst (λ (h : Heap). IsEvent h event outcome heap) (sym same_heap) is) in
    subst (λ (d : Deeds). DoesDeeds state.heap d heap)
    (sym (deeds_are ∙ ap (λ (h : Heap). told_deeds h event outcome heap) (sym same_heap)))
    (record {
      few = has.few;
      changes = has.history.changes;
      are = has.history.are;
      settings = has.history.settings;
      plannable = has.history.can;
      operations = has.history.ops_are;
      numbers = has.history.after_are;
    })

-- no more objects are made than a machine has numbers for
few_made : (old new : NumberedIds) (made : Option MadeEntry) → IfSome made (λ _. old.made < most_objects)
    → numbers_of new ≡ numbers_with (numbers_of old) made → old.made ≤ most_objects → new.made ≤ most_objects
few_made old new (Some entry) left is before =
    let more : new.made ≡ old.made + 1 = ap (λ (n : Numbers). n.made) is in
    omega (arith, left, more)
few_made old new None left is before =
    let same : new.made ≡ old.made = ap (λ (n : Numbers). n.made) is in
    omega (arith, before, same)

-- an event is taken
pub event_scripted : (old : ScriptState) (event : Event) (outcome : Outcome) (deeds : Deeds) (out out_now : List ℕ) (refused : Bool)
    (new : ScriptState)
    → can_have old event ≡ true → IsEvent old.heap event outcome new.heap → DoesDeeds old.heap deeds new.heap
    → IfSome deeds.made (λ _. old.ids.made < most_objects)
    → numbers_of new.ids ≡ numbers_with (numbers_of old.ids) deeds.made
    → out_now ≡ out ++ operation_lines (deed_operations old.heap.settings.policy (numbers_of old.ids) deeds)
    → refused ≡ is_refused outcome → new.progress ≡ progress_after old.reading refused
    → new.reading ≡ old.reading → new.pending ≡ old.pending
    → AppendsEvent scripting old event out out_now refused new
event_scripted old event outcome deeds out out_now refused new can is does left ids_are out_is refused_is progress_is reading_is pending_is =
    record {
      text = operation_lines (deed_operations old.heap.settings.policy (numbers_of old.ids) deeds);
      out_is = out_is;
      takes = inl (record {
        outcome = outcome;
        heap = new.heap;
        ids = new.ids;
        changes = does.changes;
        can = can;
        is_event = is;
        are = does.are;
        plannable = does.plannable;
        numbers = ids_are ∙ sym (does.numbers (numbers_of old.ids));
        few = λ before. few_made old.ids new.ids deeds.made left ids_are before;
        is_new = λ i. record {
          heap = new.heap;
          reading = reading_is i;
          pending = pending_is i;
          ids = new.ids;
          progress = (progress_is ∙ ap (progress_after old.reading) refused_is) i;
        };
        error_is = refused_is;
        text_is = ap operation_lines (sym (does.operations (numbers_of old.ids)));
      });
    }

-- the next line is taken as its entry is
pub line_scripted : (old : ScriptState) (entry : Entry) (line out out_now : List ℕ) (is_error : Bool) (new : ScriptState)
    → is_over old.progress ≡ false → entry ≡ next_entry scripting old line → AppendsEntry scripting old entry out out_now is_error new
    → AnswersInto ScriptsLine old line out out_now is_error new
line_scripted old entry line out out_now is_error new going is taken = entry_answers scripting old entry line out out_now is_error new going is taken

-- trailing bytes are refused
pub rest_scripted : (old : ScriptState) (rest out : List ℕ) (is_error : Bool) (new : ScriptState)
    → is_over old.progress ≡ false → RefusesEntry (scripting.refused Unfinished old) [] is_error new
    → AnswersInto ScriptsRest old rest out out is_error new
rest_scripted old rest out is_error new going refuses = rest_answers scripting old rest out is_error new going refuses
