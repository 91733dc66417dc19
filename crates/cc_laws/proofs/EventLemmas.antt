-- Every event is a list of changes, also if sweeps are no longer counted.
use Rattle.std.proofs.Common.{ℕ, Bool, true, false, ◌≡◌, ◌+◌, ◌-◌, ◌<◌, ◌≤◌, ◌^◌, max, min, if◌then◌else◌, List, [], ◌∷◌, ◌++◌, Option, Some, None, length, arith, refl, sym, ap, subst, ◌∙◌, inl, inr}
use Rattle.std.specs.List.{AllByRecursion}
use Rattle.std.specs.Prelude.{MatchOption, option_and_then}
use Rattle.cc_placer.proofs.AlignLemmas.{unit-some}
use Rattle.cc_values.specs.declared.op.Op.{Op}
use Rattle.cc_heap.specs.declared.event.Event.{Event}
use Rattle.cc_heap.specs.declared.event.Event.TheVariants.{Allocate, Clear, Reallocate, Free, Sweep, Clock}
use Rattle.cc_heap.specs.declared.object.Object.{Object}
use Rattle.cc_heap.specs.declared.outcome.Outcome.{Outcome}
use Rattle.cc_heap.specs.declared.reallocation.Reallocation.{Reallocation}
use Rattle.cc_heap.specs.declared.reallocation.Reallocation.TheVariants.{Move}
use Rattle.cc_heap.specs.declared.settings.Settings.{Settings}
use Rattle.cc_heap.specs.Policy.{is_of_the_trace}
use Rattle.cc_heap.specs.Reallocation.{can_take, is_keep}
use Rattle.cc_heap.specs.Heap.{Heap, empty_heap, kept_object, object_under, swept_heap}
use Rattle.cc_heap.specs.Events.{FreesIfLive, IsEvent, KeepsPlace, Reallocates, Remakes}
use Rattle.cc_heap.specs.Run.{Runs}
use Rattle.cc_replay.specs.Changes.{AreChangesOf, AsksForUnit, CanBePlanned, Change, Changes, objects_made}
use Rattle.cc_replay.specs.Operations.{Numbers}
use Rattle.cc_replay.specs.Kept.{IsKept}
use Rattle.cc_replay.proofs.HistoryLemmas.{HasHistory, all_joined, allocates, frees_last, joined, many_joined, moves, objects_joined, replaces_live, same, sweeps_once}
use Rattle.cc_replay.proofs.ScriptLemmas.{kept_empty}

-- the changes of events
pub record HasChanges (settings : Settings) (events : List Event) (heap : Heap) : Type 0 where
  pub changes : List Change
  pub of_events : AreChangesOf (empty_heap settings) events changes heap
  pub are : Changes (empty_heap settings) changes heap
  pub can : AllByRecursion (CanBePlanned settings.align) (objects_made changes)
  pub made : heap.totals.made ≡ min (length (objects_made changes)) (2 ^ 64 - 1)

-- some changes lead from one heap to the other, whatever their operations are
record IsHistory (old new : Heap) : Type 0 where
  changes : List Change
  are : Changes old changes new
  can : AllByRecursion (CanBePlanned old.settings.align) (objects_made changes)
  kept : IsKept new
  settings : new.settings ≡ old.settings
  made : old.totals.made ≤ 2 ^ 64 - 1
      → new.totals.made ≡ min (old.totals.made + length (objects_made changes)) (2 ^ 64 - 1)

part : {ops : Numbers → List Op} {after : Numbers → Numbers} {count : ℕ} (old new : Heap) → HasHistory old new ops after count
    → IsHistory old new
part old new history = record {
  changes = history.changes;
  are = history.are;
  can = history.can;
  kept = history.kept;
  settings = history.settings;
  made = history.made;
}

followed_by : (old between new : Heap) → IsHistory old between → IsHistory between new → IsHistory old new
followed_by old between new first other = record {
  changes = first.changes ++ other.changes;
  are = joined old between new first.changes other.changes first.are other.are;
  can = subst (AllByRecursion (CanBePlanned old.settings.align)) (sym (objects_joined first.changes other.changes))
      (all_joined old.settings.align (objects_made first.changes) (objects_made other.changes) first.can
      (subst (λ (s : Settings). AllByRecursion (CanBePlanned s.align) (objects_made other.changes)) first.settings other.can));
  kept = other.kept;
  settings = other.settings ∙ first.settings;
  made = λ few.
      let one = first.made few in
      let two = other.made (omega (arith, one)) in
      let many = many_joined first.changes other.changes in
      omega (arith, one, two, many);
}

-- ---- an event

some_size : (size : ℕ) → 0 < max size 1
some_size size = omega arith

remade : (old new : Heap) (from to size : ℕ) (outcome : Outcome) → IsKept old → Remakes old from to (max size 1) outcome new
    → IsHistory old new
remade old new from to size outcome kept (inl (none, is)) =
    part old new
    (allocates old new to 1 (max size 1) is.told kept (some_size size) (unit-some old.settings.align (max size 1)) is.allocates).history
remade old new from to size outcome kept (inr (live, inl (one, is))) =
    part old new (replaces_live old new to (max size 1) outcome kept (some_size size) is).history
remade old new from to size outcome kept (inr (live, inr (two, is))) =
    part old new (moves old is.made new from to (max size 1) outcome kept (some_size size) two is.allocates is.frees).history

-- no object keeps its place if reallocations move objects
reallocated : (old new : Heap) (from to size : ℕ) (outcome : Outcome) → IsKept old
    → Reallocates old from to (max size 1) outcome new → IsHistory old new
reallocated old new from to size outcome kept is =
    remade old new from to size outcome kept
    (subst (λ (found : Option Object). MatchOption found (Remakes old from to (max size 1) outcome new)
    (λ object. KeepsPlace old from to object (max size 1) outcome new)) none is)
  where
    none : kept_object old from (max size 1) ≡ None
    none =
        ap (λ (r : Reallocation). if is_keep r
        then option_and_then (λ object. if can_take old.settings.align 1 (max size 1) object.span then Some object else None) (object_under old from)
        else None) kept.moves

freed : (old new : Heap) (id : ℕ) (is_live : Bool) → IsKept old → FreesIfLive old id is_live new → IsHistory old new
freed old new id true kept is = part old new (frees_last old new id kept is).history
freed old new id false kept (none, is) = part old new (same old new kept is)

asked : (old new : Heap) (of_trace : Bool) → IsKept old → new ≡ (if of_trace then swept_heap old else old) → IsHistory old new
asked old new true kept is = part old new (sweeps_once old new kept is)
asked old new false kept is = part old new (same old new kept is)

event : (old new : Heap) (event : Event) (outcome : Outcome) → IsKept old → AsksForUnit old.settings.align event
    → IsEvent old event outcome new → IsHistory old new
event old new (Allocate id size align) outcome kept aligned is =
    part old new (allocates old new id align (max size 1) outcome kept (some_size size) aligned is).history
event old new (Clear id size) outcome kept aligned is =
    part old new
    (allocates old new id 1 (max size 1) outcome kept (some_size size) (unit-some old.settings.align (max size 1)) is).history
event old new (Reallocate from to size) outcome kept aligned is = reallocated old new from to size outcome kept is
event old new (Free id) outcome kept aligned is = freed old new id is.is_live kept is.frees
event old new Sweep outcome kept aligned (is, told) = asked old new (is_of_the_trace old.settings.policy) kept is
event old new (Clock time) outcome kept aligned (is, told) = part old new (same old new kept is)

-- ---- events

record HasRun (old : Heap) (events : List Event) (new : Heap) : Type 0 where
  history : IsHistory old new
  of_events : AreChangesOf old events history.changes new

runs : (old new : Heap) (events : List Event) → IsKept old → AllByRecursion (AsksForUnit old.settings.align) events
    → Runs old events new → HasRun old events new
unfolding followed_by
runs old new [] kept all is = record {
  history = record {
    changes = [];
    are = is;
    can = tt;
    kept = subst IsKept (sym is) kept;
    settings = ap (λ (h : Heap). h.settings) is;
    made = λ few.
        let stays : new.totals.made ≡ old.totals.made = ap (λ (h : Heap). h.totals.made) is in
        omega (arith, stays, few);
  };
  of_events = (refl, is);
}
runs old new (first ∷ events) kept (aligned, all) (outcome, next, is, rest) =
    let history = event old next first outcome kept aligned is in
    let others = runs next new events history.kept
    (subst (λ (s : Settings). AllByRecursion (AsksForUnit s.align) events) (sym history.settings) all) rest in
    record {
      history = followed_by old next new history others.history;
      of_events = (
        history.changes,
        others.history.changes,
        outcome,
        next,
        refl,
        is,
        history.are,
        others.of_events,
      );
    }

-- ---- the law

pub has_changes : (settings : Settings) (events : List Event) (heap : Heap) → settings.realloc ≡ Move
    → AllByRecursion (AsksForUnit settings.align) events → Runs (empty_heap settings) events heap
    → HasChanges settings events heap
has_changes settings events heap moves_objects all run =
    let least : 0 ≤ 2 ^ 64 - 1 = omega arith in
    let whole = runs (empty_heap settings) heap events (kept_empty settings moves_objects) all run in
    let made : heap.totals.made ≡ min (0 + length (objects_made whole.history.changes)) (2 ^ 64 - 1) =
    whole.history.made least in
    record {
      changes = whole.history.changes;
      of_events = whole.of_events;
      are = whole.history.are;
      can = whole.history.can;
      made = omega (arith, made);
    }
