-- Every event is a list of changes, which have the operations of its deeds.
use Rattle.std.proofs.Common.{ℕ, zero, suc, Bool, true, false, not, cond, nat_eq, ◌≡◌, ◌&&◌, ◌+◌, ◌-◌, ◌<◌, ◌≤◌, ◌^◌, max, min, if◌then◌else◌, List, [], ◌∷◌, ◌++◌, Option, Some, None, All, length}
use Rattle.std.proofs.Common.{length-append, replicate, sum_by, arith, refl, sym, ap, subst, ◌∙◌, inl, inr, IsPermutation}
use Rattle.std.specs.List.{AllByRecursion}
use Rattle.std.specs.Map.{lookup}
use Rattle.std.specs.Prelude.{MatchOption, option_and_then}
use Rattle.std.proofs.lemmas.List.{append_assoc, append-nil}
use Rattle.std.proofs.lemmas.List.Elements.{All-cons, All-head, All-tail}
use Rattle.std.proofs.lemmas.List.Sums.{sum_by_push}
use Rattle.std.proofs.lemmas.List.Sorted.{All-permutation}
use Rattle.cc_bounds.specs.declared.align.Align.{Align}
use Rattle.cc_bounds.specs.declared.span.Span.{Span}
use Rattle.cc_bounds.specs.Span.{length_of}
use Rattle.cc_placer.specs.Align.{padded_size_for, unit_of}
use Rattle.cc_placer.proofs.AlignLemmas.{padded_for-enough, unit-some}
use Rattle.cc_values.specs.declared.op.Op.{Op}
use Rattle.cc_values.specs.declared.op.Op.TheVariants.{Alloc, Sweep as SweepOp}
use Rattle.cc_heap.specs.declared.event.Event.{Event}
use Rattle.cc_heap.specs.declared.event.Event.TheVariants.{Allocate, Clear, Reallocate, Free, Sweep, Clock}
use Rattle.cc_heap.specs.declared.making.Making.{Making}
use Rattle.cc_heap.specs.declared.making.Making.TheVariants.{Made, NoRoom, Full}
use Rattle.cc_heap.specs.declared.object.Object.{Object}
use Rattle.cc_heap.specs.declared.outcome.Outcome.{Outcome}
use Rattle.cc_heap.specs.declared.policy.Policy.{Policy}
use Rattle.cc_heap.specs.declared.policy.Policy.TheVariants as policy
use Rattle.cc_heap.specs.declared.reallocation.Reallocation.{Reallocation}
use Rattle.cc_heap.specs.declared.settings.Settings.{Settings}
use Rattle.cc_heap.specs.Memory.{memory_object}
use Rattle.cc_heap.specs.Policy.{AsksForSweep, Gauge, is_immediate, is_of_the_trace}
use Rattle.cc_heap.specs.Reallocation.{can_take, is_keep}
use Rattle.cc_heap.specs.Heap.{Attempts, FreesHeapObject, Heap, MakesHeapObject, gauge_of, is_made, kept_object, object_under, quarantined_with, swept_heap}
use Rattle.cc_heap.specs.Events.{AllocatesInHeap, FollowsPolicy, FollowsReplacing, FreesInHeap, FreesIfLive, IsEvent, KeepsPlace}
use Rattle.cc_heap.specs.Events.{Reallocates, Remakes, Replaces, ReplacesLive, Tries, TriesToReplace, outcome_of}
use Rattle.cc_replay.specs.declared.deeds.Deeds.{Deeds}
use Rattle.cc_replay.specs.declared.deeds.MadeEntry.{MadeEntry}
use Rattle.cc_replay.specs.Changes.{AsksForUnit, CanBePlanned, Change, Changes, objects_made}
use Rattle.cc_replay.specs.Changes.Change.{Make as MakeOne, Free as FreeOne, Replace as ReplaceOne, Sweep as SweepAll}
use Rattle.cc_replay.specs.Operations.{Numbers, freeing, numbers_after, operations_of, with_number}
use Rattle.cc_replay.specs.Counts.{one_if}
use Rattle.cc_replay.specs.Deeds.{alloc_operations, deed_operations, deeds_of, free_operations, is_swept_clean, numbers_with, told_deeds}
use Rattle.cc_replay.specs.Kept.{HasBytes, IsKept, id_weight}
use Rattle.cc_replay.proofs.EntryLemmas.{found_none, itself, none_counted, none_is, once_more, one_fewer, one_more, other_key, same_key}

-- no entry has the id
abbrev pub IsFree : Heap → ℕ → Type 0
IsFree heap id = sum_by (id_weight id) heap.memory.live ≡ 0

-- changes lead from one heap to the other, with these operations, this effect on the numbers, and this
-- number of sweeps
pub record HasHistory (old new : Heap) (ops : Numbers → List Op) (after : Numbers → Numbers) (count : ℕ) : Type 0 where
  pub changes : List Change
  pub are : Changes old changes new
  pub can : AllByRecursion (CanBePlanned old.settings.align) (objects_made changes)
  pub kept : IsKept new
  pub settings : new.settings ≡ old.settings
  pub made : old.totals.made ≤ 2 ^ 64 - 1
      → new.totals.made ≡ min (old.totals.made + length (objects_made changes)) (2 ^ 64 - 1)
  pub ops_are : (numbers : Numbers) → operations_of old.settings.policy numbers changes ≡ ops numbers
  pub after_are : (numbers : Numbers) → numbers_after numbers changes ≡ after numbers
  pub sweeps : old.totals.sweeps + count < 2 ^ 64 → new.totals.sweeps ≡ old.totals.sweeps + count

-- the numbers stay
abbrev stay : Numbers → Numbers
stay numbers = numbers

-- ---- one history after another

pub joined : (old between new : Heap) (changes others : List Change) → Changes old changes between
    → Changes between others new → Changes old (changes ++ others) new
joined old between new [] others same rest = subst (λ (h : Heap). Changes h others new) same rest
joined old between new (first ∷ changes) others (next, is, are) rest =
    (next, is, joined next between new changes others are rest)

pub objects_joined : (changes others : List Change)
    → objects_made (changes ++ others) ≡ objects_made changes ++ objects_made others
objects_joined [] others = refl
objects_joined (MakeOne id object ∷ changes) others =
    ap (λ (l : List Object). object ∷ l) (objects_joined changes others)
objects_joined (ReplaceOne id before object ∷ changes) others =
    ap (λ (l : List Object). object ∷ l) (objects_joined changes others)
objects_joined (FreeOne id object ∷ changes) others = objects_joined changes others
objects_joined (SweepAll ∷ changes) others = objects_joined changes others

pub all_joined : (align : Align) (objects others : List Object) → AllByRecursion (CanBePlanned align) objects
    → AllByRecursion (CanBePlanned align) others → AllByRecursion (CanBePlanned align) (objects ++ others)
all_joined align [] others all rest = rest
all_joined align (object ∷ objects) others (can, all) rest = (can, all_joined align objects others all rest)

pub numbers_joined : (numbers : Numbers) (changes others : List Change)
    → numbers_after numbers (changes ++ others) ≡ numbers_after (numbers_after numbers changes) others
numbers_joined numbers [] others = refl
numbers_joined numbers (MakeOne id object ∷ changes) others = numbers_joined (with_number numbers id) changes others
numbers_joined numbers (ReplaceOne id before object ∷ changes) others = numbers_joined (with_number numbers id) changes others
numbers_joined numbers (FreeOne id object ∷ changes) others = numbers_joined numbers changes others
numbers_joined numbers (SweepAll ∷ changes) others = numbers_joined numbers changes others

pub operations_joined : (policy : Policy) (numbers : Numbers) (changes others : List Change)
    → operations_of policy numbers (changes ++ others)
    ≡ operations_of policy numbers changes ++ operations_of policy (numbers_after numbers changes) others
operations_joined policy numbers [] others = refl
operations_joined policy numbers (MakeOne id object ∷ changes) others =
    ap (λ (l : List Op). Alloc object.size ∷ l) (operations_joined policy (with_number numbers id) changes others)
operations_joined policy numbers (ReplaceOne id before object ∷ changes) others =
    ap (λ (l : List Op). Alloc object.size ∷ (freeing policy (numbers.number_of id) ++ l))
    (operations_joined policy (with_number numbers id) changes others)
    ∙ ap (λ (l : List Op). Alloc object.size ∷ l)
    (sym (append_assoc (freeing policy (numbers.number_of id)) (operations_of policy (with_number numbers id) changes)
    (operations_of policy (numbers_after (with_number numbers id) changes) others)))
operations_joined policy numbers (FreeOne id object ∷ changes) others =
    ap (λ (l : List Op). freeing policy (numbers.number_of id) ++ l) (operations_joined policy numbers changes others)
    ∙ sym (append_assoc (freeing policy (numbers.number_of id)) (operations_of policy numbers changes)
    (operations_of policy (numbers_after numbers changes) others))
operations_joined policy numbers (SweepAll ∷ changes) others =
    ap (λ (l : List Op). SweepOp ∷ l) (operations_joined policy numbers changes others)

pub many_joined : (changes others : List Change)
    → length (objects_made (changes ++ others)) ≡ length (objects_made changes) + length (objects_made others)
many_joined changes others =
    ap (λ (l : List Object). length l) (objects_joined changes others)
    ∙ length-append (objects_made changes) (objects_made others)

pub follow : {ops others : Numbers → List Op} {after later : Numbers → Numbers} {count more : ℕ} (old between new : Heap)
    → HasHistory old between ops after count → HasHistory between new others later more
    → HasHistory old new (λ n. ops n ++ others (after n)) (λ n. later (after n)) (count + more)
follow {ops} {others} {after} {later} {count} {more} old between new first other = record {
  changes = first.changes ++ other.changes;
  are = joined old between new first.changes other.changes first.are other.are;
  can = subst (AllByRecursion (CanBePlanned old.settings.align)) (sym (objects_joined first.changes other.changes))
      (all_joined old.settings.align (objects_made first.changes) (objects_made other.changes) first.can
      (subst (λ (s : Settings). AllByRecursion (CanBePlanned s.align) (objects_made other.changes)) first.settings other.can));
  kept = other.kept;
  settings = other.settings ∙ first.settings;
  made = λ few.
      let one = first.made few in
      let two = other.made (omega (arith, one)) in
      let many = many_joined first.changes other.changes in
      omega (arith, one, two, many);
  ops_are = λ n.
      operations_joined old.settings.policy n first.changes other.changes
      ∙ ap (λ (l : List Op). l ++ operations_of old.settings.policy (numbers_after n first.changes) other.changes) (first.ops_are n)
      ∙ ap (λ (m : Numbers). ops n ++ operations_of old.settings.policy m other.changes) (first.after_are n)
      ∙ ap (λ (s : Settings). ops n ++ operations_of s.policy (after n) other.changes) (sym first.settings)
      ∙ ap (λ (l : List Op). ops n ++ l) (other.ops_are (after n));
  after_are = λ n.
      numbers_joined n first.changes other.changes
      ∙ ap (λ (m : Numbers). numbers_after m other.changes) (first.after_are n)
      ∙ other.after_are (after n);
  sweeps = λ few.
      let one = first.sweeps (omega (arith, few)) in
      let two = other.sweeps (omega (arith, few, one)) in
      omega (arith, one, two);
}

-- the same history, with its operations and numbers written otherwise
told : {ops : Numbers → List Op} {after : Numbers → Numbers} {count : ℕ} (old new : Heap) (others : Numbers → List Op)
    (later : Numbers → Numbers) (more : ℕ) → HasHistory old new ops after count → ((n : Numbers) → ops n ≡ others n)
    → ((n : Numbers) → after n ≡ later n) → count ≡ more → HasHistory old new others later more
told {ops} {after} {count} old new others later more history ops_are after_are many = record {
  changes = history.changes;
  are = history.are;
  can = history.can;
  kept = history.kept;
  settings = history.settings;
  made = history.made;
  ops_are = λ n. history.ops_are n ∙ ops_are n;
  after_are = λ n. history.after_are n ∙ after_are n;
  sweeps = λ few. let is = history.sweeps (omega (arith, few, many)) in omega (arith, is, many);
}

kept_along : (old new : Heap) → new ≡ old → IsKept old → IsKept new
kept_along old new is kept = subst IsKept (sym is) kept

pub same : (old new : Heap) → IsKept old → new ≡ old → HasHistory old new (λ n. []) stay 0
same old new kept is = record {
  changes = [];
  are = is;
  can = tt;
  kept = kept_along old new is kept;
  settings = ap (λ (h : Heap). h.settings) is;
  made = λ few.
      let stays : new.totals.made ≡ old.totals.made = ap (λ (h : Heap). h.totals.made) is in
      omega (arith, stays, few);
  ops_are = λ n. refl;
  after_are = λ n. refl;
  sweeps = λ few.
      let stays : new.totals.sweeps ≡ old.totals.sweeps = ap (λ (h : Heap). h.totals.sweeps) is in
      omega (arith, stays, few);
}

-- ---- one change

kept_made : (old new : Heap) (id requested size start : ℕ) (live : List (ℕ × Object)) → IsKept old → IsFree old id → 0 < size
    → IsPermutation ((id, memory_object old.settings.align requested start size) ∷ old.memory.live) live
    → new.memory.live ≡ live → new.settings ≡ old.settings → IsKept new
kept_made old new id requested size start live kept free some adds live_is settings_are = record {
  once = λ other. subst (λ (l : List (ℕ × Object)). sum_by (id_weight other) l ≤ 1) (sym live_is)
      (once_more id (memory_object old.settings.align requested start size) old.memory.live live free
      (one_more old.memory.live live (id, memory_object old.settings.align requested start size) adds) kept.once other);
  some = subst (λ (l : List (ℕ × Object)). All HasBytes l) (sym live_is)
      (All-permutation HasBytes ((id, memory_object old.settings.align requested start size) ∷ old.memory.live) live adds
      (All-cons HasBytes (id, memory_object old.settings.align requested start size) old.memory.live bytes kept.some));
  moves = ap (λ (s : Settings). s.realloc) settings_are ∙ kept.moves;
}
  where
    bytes : 0 < start + padded_size_for old.settings.align size - start
    bytes = omega (arith, padded_for-enough old.settings.align size, some)

makes : (old new : Heap) (id requested size : ℕ) → IsKept old → IsFree old id → 0 < size
    → requested ≤ unit_of old.settings.align size
    → MakesHeapObject old id requested size new → HasHistory old new (λ n. Alloc size ∷ []) (λ n. with_number n id) 0
makes old new id requested size kept free some aligned made =
    let object : Object = memory_object old.settings.align requested made.start size in
    record {
      changes = MakeOne id object ∷ [];
      are = (new, (found_none id old.memory.live free, record { makes = made; is = refl }), refl);
      can = (record { some = some; aligned = aligned }, tt);
      kept = kept_made old new id requested size made.start made.live kept free some made.adds
          (ap (λ (h : Heap). h.memory.live) made.is_new) (ap (λ (h : Heap). h.settings) made.is_new);
      settings = ap (λ (h : Heap). h.settings) made.is_new;
      made = λ few. ap (λ (h : Heap). h.totals.made) made.is_new;
      ops_are = λ n. refl;
      after_are = λ n. refl;
      sweeps = λ few.
          let stays : new.totals.sweeps ≡ old.totals.sweeps = ap (λ (h : Heap). h.totals.sweeps) made.is_new in
          omega (arith, stays);
    }

kept_freed : (old new : Heap) (id : ℕ) (object : Object) (fewer : List (ℕ × Object)) → IsKept old
    → IsPermutation old.memory.live ((id, object) ∷ fewer) → new.memory.live ≡ fewer → new.settings ≡ old.settings
    → IsKept new
kept_freed old new id object fewer kept takes live_is settings_are = record {
  once = λ other. subst (λ (l : List (ℕ × Object)). sum_by (id_weight other) l ≤ 1) (sym live_is)
      (omega (arith, kept.once other, one_fewer old.memory.live fewer (id, object) takes (id_weight other)));
  some = subst (λ (l : List (ℕ × Object)). All HasBytes l) (sym live_is)
      (All-tail HasBytes (id, object) fewer (All-permutation HasBytes old.memory.live ((id, object) ∷ fewer) takes kept.some));
  moves = ap (λ (s : Settings). s.realloc) settings_are ∙ kept.moves;
}

frees_object : (old new : Heap) (id : ℕ) (object : Object) → IsKept old → FreesHeapObject old id object new
    → HasHistory old new (λ n. freeing old.settings.policy (n.number_of id)) stay 0
frees_object old new id object kept freed = record {
  changes = FreeOne id object ∷ [];
  are = (new, freed, refl);
  can = tt;
  kept = kept_freed old new id object freed.live kept freed.takes (ap (λ (h : Heap). h.memory.live) freed.is_new)
      (ap (λ (h : Heap). h.settings) freed.is_new);
  settings = ap (λ (h : Heap). h.settings) freed.is_new;
  made = λ few.
      let stays : new.totals.made ≡ old.totals.made = ap (λ (h : Heap). h.totals.made) freed.is_new in
      omega (arith, stays, few);
  ops_are = λ n. append-nil (freeing old.settings.policy (n.number_of id));
  after_are = λ n. refl;
  sweeps = λ few.
      let stays : new.totals.sweeps ≡ old.totals.sweeps = ap (λ (h : Heap). h.totals.sweeps) freed.is_new in
      omega (arith, stays);
}

pub sweeps_once : (old new : Heap) → IsKept old → new ≡ swept_heap old → HasHistory old new (λ n. replicate 1 SweepOp) stay 1
sweeps_once old new kept is = record {
  changes = SweepAll ∷ [];
  are = (new, is, refl);
  can = tt;
  kept = subst IsKept (sym is) (record { once = kept.once; some = kept.some; moves = kept.moves });
  settings = ap (λ (h : Heap). h.settings) is;
  made = λ few.
      let stays : new.totals.made ≡ old.totals.made = ap (λ (h : Heap). h.totals.made) is in
      omega (arith, stays, few);
  ops_are = λ n. refl;
  after_are = λ n. refl;
  sweeps = λ few.
      let more : new.totals.sweeps ≡ min (old.totals.sweeps + 1) (2 ^ 64 - 1) = ap (λ (h : Heap). h.totals.sweeps) is in
      omega (arith, more, few);
}

replaces : (old new : Heap) (id size : ℕ) → IsKept old → 0 < size → Replaces old id size new
    → HasHistory old new (λ n. Alloc size ∷ freeing old.settings.policy (n.number_of id)) (λ n. with_number n id) 0
replaces old new id size kept some is =
    let made = is.makes in
    let freed = is.frees in
    let object : Object = memory_object old.settings.align 1 made.start size in
    let live : new.memory.live ≡ freed.live = ap (λ (h : Heap). h.memory.live) freed.is_new in
    let made_live : is.made.memory.live ≡ made.live = ap (λ (h : Heap). h.memory.live) made.is_new in
    let made_settings : is.made.settings ≡ old.settings = ap (λ (h : Heap). h.settings) made.is_new in
    let freed_settings : new.settings ≡ is.made.settings = ap (λ (h : Heap). h.settings) freed.is_new in
    let bytes : HasBytes (id, object) = some_bytes old.settings.align made.start size some in
    let all_made : All HasBytes is.made.memory.live =
    subst (λ (l : List (ℕ × Object)). All HasBytes l) (sym made_live)
    (All-permutation HasBytes ((id, object) ∷ old.memory.live) made.live made.adds
    (All-cons HasBytes (id, object) old.memory.live bytes kept.some)) in
    record {
      changes = ReplaceOne id is.before object ∷ [];
      are = (new, record { is_live = is.is_live; made = is.made; makes = record { makes = made; is = refl }; frees = freed }, refl);
      can = (record { some = some; aligned = unit-some old.settings.align size }, tt);
      kept = record {
        once = λ other. subst (λ (l : List (ℕ × Object)). sum_by (id_weight other) l ≤ 1) (sym live)
            (let more = one_more old.memory.live made.live (id, object) made.adds (id_weight other) in
            let fewer = one_fewer is.made.memory.live freed.live (id, is.before) freed.takes (id_weight other) in
            let between : sum_by (id_weight other) is.made.memory.live ≡ sum_by (id_weight other) made.live =
            ap (λ (l : List (ℕ × Object)). sum_by (id_weight other) l) made_live in
            let same_id : id_weight other (id, object) ≡ id_weight other (id, is.before) = refl in
            omega (arith, more, fewer, between, same_id, kept.once other));
        some = subst (λ (l : List (ℕ × Object)). All HasBytes l) (sym live)
            (All-tail HasBytes (id, is.before) freed.live
            (All-permutation HasBytes is.made.memory.live ((id, is.before) ∷ freed.live) freed.takes all_made));
        moves = ap (λ (s : Settings). s.realloc) freed_settings ∙ ap (λ (s : Settings). s.realloc) made_settings ∙ kept.moves;
      };
      settings = freed_settings ∙ made_settings;
      made = λ few. ap (λ (h : Heap). h.totals.made) freed.is_new ∙ ap (λ (h : Heap). h.totals.made) made.is_new;
      ops_are = λ n. ap (λ (l : List Op). Alloc size ∷ l) (append-nil (freeing old.settings.policy (n.number_of id)));
      after_are = λ n. refl;
      sweeps = λ few.
          let one : new.totals.sweeps ≡ is.made.totals.sweeps = ap (λ (h : Heap). h.totals.sweeps) freed.is_new in
          let two : is.made.totals.sweeps ≡ old.totals.sweeps = ap (λ (h : Heap). h.totals.sweeps) made.is_new in
          omega (arith, one, two);
    }
  where
    some_bytes : (align : Align) (start size : ℕ) → 0 < size → 0 < start + padded_size_for align size - start
    some_bytes align start size some = omega (arith, padded_for-enough align size, some)

-- ---- the parts of an event

replicate_joined : (a b : ℕ) → replicate a SweepOp ++ replicate b SweepOp ≡ replicate (a + b) SweepOp
replicate_joined zero b =
    let is : b ≡ zero + b = omega arith in
    ap (λ (n : ℕ). replicate n SweepOp) is
replicate_joined (suc a) b =
    let is : suc (a + b) ≡ suc a + b = omega arith in
    ap (λ (l : List Op). SweepOp ∷ l) (replicate_joined a b) ∙ ap (λ (n : ℕ). replicate n SweepOp) is

gathered : (first last : List Op) (a b : ℕ)
    → (first ++ replicate a SweepOp) ++ (replicate b SweepOp ++ last) ≡ first ++ (replicate (a + b) SweepOp ++ last)
gathered first last a b =
    append_assoc first (replicate a SweepOp) (replicate b SweepOp ++ last)
    ∙ ap (λ (l : List Op). first ++ l) (sym (append_assoc (replicate a SweepOp) (replicate b SweepOp) last))
    ∙ ap (λ (l : List Op). first ++ (l ++ last)) (replicate_joined a b)

-- at most one sweep
pub record HasSwept (old new : Heap) : Type 0 where
  count : ℕ
  few : count ≤ 1
  history : HasHistory old new (λ n. replicate count SweepOp) stay count

follows : (old new : Heap) → IsKept old → FollowsPolicy old new → HasSwept old new
follows old new kept (inl (must, is)) = record { count = 1; few = omega arith; history = sweeps_once old new kept is }
follows old new kept (inr (not, is)) = record { count = 0; few = omega arith; history = same old new kept is }

follows_free : (old new : Heap) (id : ℕ) → IsFree old id → FollowsPolicy old new → IsFree new id
follows_free old new id free (inl (must, is)) =
    subst (λ (h : Heap). sum_by (id_weight id) h.memory.live ≡ 0) (sym is) free
follows_free old new id free (inr (not, is)) =
    subst (λ (h : Heap). sum_by (id_weight id) h.memory.live ≡ 0) (sym is) free

frees_free : (old new : Heap) (id : ℕ) → IsKept old → FreesInHeap old id new → IsFree new id
frees_free old new id kept freed =
    let live : freed.freed.memory.live ≡ freed.frees.live = ap (λ (h : Heap). h.memory.live) freed.frees.is_new in
    let own : id_weight id (id, freed.object) ≡ 1 = ap (λ (t : Bool). cond t 1 0) (itself id) in
    let fewer = one_fewer old.memory.live freed.frees.live (id, freed.object) freed.frees.takes (id_weight id) in
    let none : sum_by (id_weight id) freed.frees.live ≡ 0 = omega (arith, own, fewer, kept.once id) in
    follows_free freed.freed new id (ap (λ (l : List (ℕ × Object)). sum_by (id_weight id) l) live ∙ none) freed.follows

-- the object under an id is freed, if it is live, and then there is at most one sweep
abbrev if_live : Bool → ℕ → Option ℕ
if_live was_live id = if was_live then Some id else None

pub record HasCleared (old : Heap) (id : ℕ) (was_live : Bool) (new : Heap) : Type 0 where
  pub count : ℕ
  pub few : count ≤ 1
  pub history : HasHistory old new
      (λ n. free_operations old.settings.policy n (if_live was_live id) ++ replicate count SweepOp) stay count
  pub free : IsFree new id

pub clears : (old new : Heap) (id : ℕ) (was_live : Bool) → IsKept old → FreesIfLive old id was_live new
    → HasCleared old id was_live new
clears old new id true kept freed =
    let first = frees_object old freed.freed id freed.object kept freed.frees in
    let second = follows freed.freed new first.kept freed.follows in
    record {
      count = second.count;
      few = second.few;
      history = told old new (λ n. freeing old.settings.policy (n.number_of id) ++ replicate second.count SweepOp) stay second.count
          (follow old freed.freed new first second.history) (λ n. refl) (λ n. refl) (omega arith);
      free = frees_free old new id kept freed;
    }
clears old new id false kept (none, is) = record {
  count = 0;
  few = omega arith;
  history = same old new kept is;
  free = subst (λ (h : Heap). sum_by (id_weight id) h.memory.live ≡ 0) (sym is)
      (none_counted id old.memory.live (none_is (lookup (nat_eq id) old.memory.live) none));
}

-- an object is made, or not
abbrev made_entry : Making → (id size : ℕ) → Option MadeEntry
made_entry making id size = if is_made making then Some (record { id = id; size = size }) else None

attempts : (old new : Heap) (id requested size : ℕ) (making : Making) → IsKept old → IsFree old id → 0 < size
    → requested ≤ unit_of old.settings.align size → Attempts old id requested size making new
    → HasHistory old new (λ n. alloc_operations (made_entry making id size)) (λ n. numbers_with n (made_entry making id size)) 0
attempts old new id requested size Made kept free some aligned made = makes old new id requested size kept free some aligned made
attempts old new id requested size NoRoom kept free some aligned (few, none, is) = same old new kept is
attempts old new id requested size Full kept free some aligned (many, is) = same old new kept is

pub record HasTried (old : Heap) (id size : ℕ) (making : Making) (new : Heap) : Type 0 where
  count : ℕ
  few : count ≤ 1
  history : HasHistory old new (λ n. replicate count SweepOp ++ alloc_operations (made_entry making id size))
      (λ n. numbers_with n (made_entry making id size)) count

tries : (old new : Heap) (id requested size : ℕ) (making : Making) → IsKept old → IsFree old id → 0 < size
    → requested ≤ unit_of old.settings.align size → Tries old id requested size making new
    → HasTried old id size making new
tries old new id requested size making kept free some aligned (inl (is, made)) =
    subst (λ (m : Making). HasTried old id size m new) (sym is)
    (record { count = 0; few = omega arith; history = makes old new id requested size kept free some aligned made })
tries old new id requested size making kept free some aligned (inr (none, again)) =
    let first = sweeps_once old (swept_heap old) kept refl in
    record {
      count = 1;
      few = omega arith;
      history = follow old (swept_heap old) new first
          (attempts (swept_heap old) new id requested size making first.kept free some aligned again);
    }

pub record HasAllocated (old : Heap) (id size : ℕ) (was_live : Bool) (making : Making) (new : Heap) : Type 0 where
  count : ℕ
  few : count ≤ 2
  pub history : HasHistory old new
      (λ n. free_operations old.settings.policy n (if_live was_live id)
      ++ (replicate count SweepOp ++ alloc_operations (made_entry making id size)))
      (λ n. numbers_with n (made_entry making id size)) count

pub allocates : (old new : Heap) (id requested size : ℕ) (outcome : Outcome) → IsKept old → 0 < size
    → requested ≤ unit_of old.settings.align size → (is : AllocatesInHeap old id requested size outcome new)
    → HasAllocated old id size is.was_live is.making new
allocates old new id requested size outcome kept some aligned is =
    let first = clears old is.cleared id is.was_live kept is.clears in
    let second = tries is.cleared new id requested size is.making first.history.kept first.free some
    (subst (λ (s : Settings). requested ≤ unit_of s.align size) (sym first.history.settings) aligned) is.tries in
    record {
      count = first.count + second.count;
      few = omega (arith, first.few, second.few);
      history = told old new
          (λ n. free_operations old.settings.policy n (if_live is.was_live id)
          ++ (replicate (first.count + second.count) SweepOp ++ alloc_operations (made_entry is.making id size)))
          (λ n. numbers_with n (made_entry is.making id size)) (first.count + second.count)
          (follow old is.cleared new first.history second.history)
          (λ n. gathered (free_operations old.settings.policy n (if_live is.was_live id))
          (alloc_operations (made_entry is.making id size)) first.count second.count)
          (λ n. refl) refl;
    }

-- ---- a free at the end of an event, and whether it is swept then

not_immediate : (policy : Policy) (gauge : Gauge) → AsksForSweep policy gauge → is_immediate policy ≡ false
not_immediate policy.Immediate gauge asks = absurd asks
not_immediate policy.Never gauge asks = absurd asks
not_immediate (policy.Percent percent share) gauge asks = refl
not_immediate (policy.Bytes bytes) gauge asks = refl
not_immediate (policy.Frees frees) gauge asks = refl
not_immediate policy.Trace gauge asks = absurd asks

waits : (immediate : Bool) (waiting found : List Span) (span : Span) → 0 < length_of span
    → found ≡ (if immediate then waiting else waiting ++ span ∷ [])
    → (not immediate && nat_eq (sum_by length_of found) 0) ≡ false
waits true waiting found span some is = refl
waits false waiting found span some is = never (nat_eq (sum_by length_of found) 0) refl
  where
    never : (b : Bool) → nat_eq (sum_by length_of found) 0 ≡ b → b ≡ false
    never true same_zero =
        let sums : sum_by length_of found ≡ sum_by length_of (waiting ++ span ∷ []) =
        ap (λ (l : List Span). sum_by length_of l) is in
        let zero_is : sum_by length_of found ≡ 0 = same_key (sum_by length_of found) 0 same_zero in
        absurd (omega (arith, sums, zero_is, some, sum_by_push length_of waiting span))
    never false other = refl

pub record HasEnded (old new : Heap) : Type 0 where
  count : ℕ
  few : count ≤ 1
  history : HasHistory old new (λ n. replicate count SweepOp) stay count
  clean : one_if (is_swept_clean new) ≡ count

ends : (freed new : Heap) (waiting : List Span) (span : Span) → IsKept freed → 0 < length_of span
    → freed.memory.quarantined ≡ quarantined_with freed.settings.policy waiting span → FollowsPolicy freed new
    → HasEnded freed new
ends freed new waiting span kept some is (inl (must, swept_is)) = record {
  count = 1;
  few = omega arith;
  history = sweeps_once freed new kept swept_is;
  clean = ap (λ (h : Heap). one_if (is_swept_clean h)) swept_is
      ∙ ap (λ (b : Bool). one_if (not b && true)) (not_immediate freed.settings.policy (gauge_of freed) must.asks);
}
ends freed new waiting span kept some is (inr (not_must, same_is)) = record {
  count = 0;
  few = omega arith;
  history = same freed new kept same_is;
  clean = ap (λ (h : Heap). one_if (is_swept_clean h)) same_is
      ∙ ap one_if (waits (is_immediate freed.settings.policy) waiting freed.memory.quarantined span some is);
}

-- an object is freed, and then there is at most one sweep
pub record HasFreed (old : Heap) (id : ℕ) (new : Heap) : Type 0 where
  count : ℕ
  few : count ≤ 1
  pub history : HasHistory old new (λ n. freeing old.settings.policy (n.number_of id) ++ replicate count SweepOp) stay count
  clean : one_if (is_swept_clean new) ≡ count

pub frees_last : (old new : Heap) (id : ℕ) → IsKept old → FreesInHeap old id new → HasFreed old id new
frees_last old new id kept is =
    let first = frees_object old is.freed id is.object kept is.frees in
    let some : 0 < length_of is.object.span =
    All-head HasBytes (id, is.object) is.frees.live
    (All-permutation HasBytes old.memory.live ((id, is.object) ∷ is.frees.live) is.frees.takes kept.some) in
    let policy_is : is.freed.settings.policy ≡ old.settings.policy = ap (λ (s : Settings). s.policy) first.settings in
    let quarantine_is : is.freed.memory.quarantined
    ≡ quarantined_with is.freed.settings.policy old.memory.quarantined is.object.span =
    ap (λ (h : Heap). h.memory.quarantined) is.frees.is_new
    ∙ ap (λ (p : Policy). quarantined_with p old.memory.quarantined is.object.span) (sym policy_is) in
    let second = ends is.freed new old.memory.quarantined is.object.span first.kept some quarantine_is is.follows in
    record {
      count = second.count;
      few = second.few;
      history = told old new (λ n. freeing old.settings.policy (n.number_of id) ++ replicate second.count SweepOp) stay second.count
          (follow old is.freed new first second.history) (λ n. refl) (λ n. refl) (omega arith);
      clean = second.clean;
    }

-- ---- the events

-- the deeds of an event
pub record HasDeeds (old new : Heap) (deeds : Deeds) : Type 0 where
  pub count : ℕ
  pub few : deeds.sweeps ≤ 2
  pub history : HasHistory old new (λ n. deed_operations old.settings.policy n deeds) (λ n. numbers_with n deeds.made) count

abbrev IsDone : Heap → Event → Outcome → Heap → Type 0
IsDone old event outcome new = old.totals.sweeps + 3 < 2 ^ 64 → HasDeeds old new (told_deeds old event outcome new)

-- an object alone is made, or nothing
allocated : (old new : Heap) (event : Event) (id requested size : ℕ) (outcome told_outcome : Outcome) (unknown : Bool) → IsKept old → 0 < size
    → requested ≤ unit_of old.settings.align size → (is : AllocatesInHeap old id requested size told_outcome new)
    → ((clean : Bool) (sweeps : ℕ) → deeds_of event outcome sweeps clean ≡ record {
      cleared = if_live is.was_live id;
      sweeps = sweeps - 0;
      made = made_entry is.making id size;
      freed = None;
      is_swept = false;
    })
    → IsDone old event outcome new
allocated old new event id requested size outcome told_outcome unknown kept some aligned is deeds_are few =
    let made = allocates old new id requested size told_outcome kept some aligned is in
    let sweeps = made.history.sweeps (omega (arith, few, made.few)) in
    let many : new.totals.sweeps - old.totals.sweeps - 0 ≡ made.count = omega (arith, sweeps) in
    let deeds : Deeds = record {
      cleared = if_live is.was_live id;
      sweeps = made.count;
      made = made_entry is.making id size;
      freed = None;
      is_swept = false;
    } in
    let same_deeds : told_deeds old event outcome new ≡ deeds =
    deeds_are (is_swept_clean new) (new.totals.sweeps - old.totals.sweeps)
    ∙ (λ i. record {
      cleared = if_live is.was_live id;
      sweeps = many i;
      made = made_entry is.making id size;
      freed = None;
      is_swept = false;
    }) in
    subst (λ (d : Deeds). HasDeeds old new d) (sym same_deeds) (record {
      count = made.count;
      few = made.few;
      history = told old new (λ n. deed_operations old.settings.policy n deeds) (λ n. numbers_with n (made_entry is.making id size)) made.count
          made.history
          (λ n. ap (λ (l : List Op). free_operations old.settings.policy n (if_live is.was_live id) ++ (replicate made.count SweepOp ++ l))
          (sym (append-nil (alloc_operations (made_entry is.making id size)))))
          (λ n. refl) refl;
    })

-- what an object frees last, after one is made in its place or not
pub record HasMoved (old : Heap) (cleared : Option ℕ) (made : Option MadeEntry) (id : ℕ) (new : Heap) : Type 0 where
  count : ℕ
  last : ℕ
  few : count ≤ 2
  few_last : last ≤ 1
  clean : one_if (is_swept_clean new) ≡ last
  pub history : HasHistory old new
      (λ n. free_operations old.settings.policy n cleared
      ++ (replicate count SweepOp
      ++ (alloc_operations made ++ (freeing old.settings.policy (n.number_of id) ++ replicate last SweepOp))))
      (λ n. numbers_with n made) (count + last)

moved_deeds : (old new : Heap) (event : Event) (outcome : Outcome) (cleared : Option ℕ) (made : Option MadeEntry) (id : ℕ)
    → HasMoved old cleared made id new
    → ((clean : Bool) (sweeps : ℕ) → deeds_of event outcome sweeps clean ≡ record {
      cleared = cleared;
      sweeps = sweeps - one_if clean;
      made = made;
      freed = Some id;
      is_swept = clean;
    })
    → IsDone old event outcome new
moved_deeds old new event outcome cleared made id moved deeds_are few =
    let sweeps = moved.history.sweeps (omega (arith, few, moved.few, moved.few_last)) in
    let many : new.totals.sweeps - old.totals.sweeps - one_if (is_swept_clean new) ≡ moved.count =
    omega (arith, sweeps, moved.clean) in
    let deeds : Deeds = record {
      cleared = cleared;
      sweeps = moved.count;
      made = made;
      freed = Some id;
      is_swept = is_swept_clean new;
    } in
    let same_deeds : told_deeds old event outcome new ≡ deeds =
    deeds_are (is_swept_clean new) (new.totals.sweeps - old.totals.sweeps)
    ∙ (λ i. record {
      cleared = cleared;
      sweeps = many i;
      made = made;
      freed = Some id;
      is_swept = is_swept_clean new;
    }) in
    subst (λ (d : Deeds). HasDeeds old new d) (sym same_deeds) (record {
      count = moved.count + moved.last;
      few = moved.few;
      history = told old new (λ n. deed_operations old.settings.policy n deeds) (λ n. numbers_with n made) (moved.count + moved.last)
          moved.history
          (λ n. ap (λ (k : ℕ). free_operations old.settings.policy n cleared
          ++ (replicate moved.count SweepOp
          ++ (alloc_operations made ++ (freeing old.settings.policy (n.number_of id) ++ replicate k SweepOp)))) (sym moved.clean))
          (λ n. refl) refl;
    })

-- ---- an object is made in place of another

other_number : (making : Making) (numbers : Numbers) (from to size : ℕ) → nat_eq to from ≡ false
    → (numbers_with numbers (made_entry making to size)).number_of from ≡ numbers.number_of from
other_number Made numbers from to size other =
    ap (λ (b : Bool). if b then numbers.made + 1 else numbers.number_of from) other
other_number NoRoom numbers from to size other = refl
other_number Full numbers from to size other = refl

placed : (cleared sweeps alloc last : List Op) → (cleared ++ (sweeps ++ alloc)) ++ last ≡ cleared ++ (sweeps ++ (alloc ++ last))
placed cleared sweeps alloc last =
    append_assoc cleared (sweeps ++ alloc) last ∙ ap (λ (l : List Op). cleared ++ l) (append_assoc sweeps alloc last)

pub moves : (old made new : Heap) (from to size : ℕ) (outcome : Outcome) → IsKept old → 0 < size → (from ≡ to → ⊥)
    → (is : AllocatesInHeap old to 1 size outcome made) → FreesInHeap made from new
    → HasMoved old (if_live is.was_live to) (made_entry is.making to size) from new
moves old made new from to size outcome kept some differ is freed =
    let first = allocates old made to 1 size outcome kept some (unit-some old.settings.align size) is in
    let second = frees_last made new from first.history.kept freed in
    let policy_is : made.settings.policy ≡ old.settings.policy = ap (λ (s : Settings). s.policy) first.history.settings in
    record {
      count = first.count;
      last = second.count;
      few = first.few;
      few_last = second.few;
      clean = second.clean;
      history = told old new
          (λ n. free_operations old.settings.policy n (if_live is.was_live to)
          ++ (replicate first.count SweepOp
          ++ (alloc_operations (made_entry is.making to size)
          ++ (freeing old.settings.policy (n.number_of from) ++ replicate second.count SweepOp))))
          (λ n. numbers_with n (made_entry is.making to size)) (first.count + second.count)
          (follow old made new first.history second.history)
          (λ n. placed (free_operations old.settings.policy n (if_live is.was_live to)) (replicate first.count SweepOp)
          (alloc_operations (made_entry is.making to size))
          (freeing made.settings.policy ((numbers_with n (made_entry is.making to size)).number_of from) ++ replicate second.count SweepOp)
          ∙ ap (λ (p : Policy). free_operations old.settings.policy n (if_live is.was_live to)
          ++ (replicate first.count SweepOp
          ++ (alloc_operations (made_entry is.making to size)
          ++ (freeing p ((numbers_with n (made_entry is.making to size)).number_of from) ++ replicate second.count SweepOp)))) policy_is
          ∙ ap (λ (k : ℕ). free_operations old.settings.policy n (if_live is.was_live to)
          ++ (replicate first.count SweepOp
          ++ (alloc_operations (made_entry is.making to size)
          ++ (freeing old.settings.policy k ++ replicate second.count SweepOp))))
          (other_number is.making n from to size (other_key from to differ)))
          (λ n. refl) refl;
    }

-- an object is replaced, with a sweep before or not
replaced_once : (old tried new : Heap) (id size count : ℕ) → count ≤ 1 → IsKept old → 0 < size
    → HasHistory old tried (λ n. replicate count SweepOp) stay count
    → (between : Heap) → Replaces tried id size between → FollowsPolicy between new
    → HasMoved old None (made_entry Made id size) id new
replaced_once old tried new id size count few kept some first between is follows_is =
    let second = replaces tried between id size first.kept some is in
    let before_bytes : 0 < length_of is.before.span = replaced_bytes tried between id size first.kept some is in
    let made_policy : is.made.settings.policy ≡ tried.settings.policy = ap (λ (h : Heap). h.settings.policy) is.makes.is_new in
    let freed_policy : between.settings.policy ≡ is.made.settings.policy = ap (λ (h : Heap). h.settings.policy) is.frees.is_new in
    let quarantine_is : between.memory.quarantined
    ≡ quarantined_with between.settings.policy is.made.memory.quarantined is.before.span =
    ap (λ (h : Heap). h.memory.quarantined) is.frees.is_new
    ∙ ap (λ (p : Policy). quarantined_with p is.made.memory.quarantined is.before.span) (sym freed_policy) in
    let last = ends between new is.made.memory.quarantined is.before.span second.kept before_bytes quarantine_is follows_is in
    let policy_is : tried.settings.policy ≡ old.settings.policy = ap (λ (s : Settings). s.policy) first.settings in
    let rest = follow tried between new second last.history in
    record {
      count = count;
      last = last.count;
      few = omega (arith, few);
      few_last = last.few;
      clean = last.clean;
      history = told old new
          (λ n. replicate count SweepOp
          ++ (Alloc size ∷ (freeing old.settings.policy (n.number_of id) ++ replicate last.count SweepOp)))
          (λ n. with_number n id) (count + last.count)
          (follow old tried new first rest)
          (λ n. ap (λ (p : Policy). replicate count SweepOp
          ++ (Alloc size ∷ (freeing p (n.number_of id) ++ replicate last.count SweepOp))) policy_is)
          (λ n. refl) (omega arith);
    }
  where
    replaced_bytes : (old new : Heap) (id size : ℕ) → IsKept old → 0 < size → (is : Replaces old id size new)
        → 0 < length_of is.before.span
    replaced_bytes old new id size kept some is = found_bytes old.memory.live kept.some is.is_live
      where
        found_bytes : (entries : List (ℕ × Object)) → All HasBytes entries → lookup (nat_eq id) entries ≡ Some is.before
            → 0 < length_of is.before.span
        found_bytes [] all never = absurd (not_found never)
          where
            not_found : None ≡ Some is.before → ⊥
            not_found e = cc
        found_bytes ((key, object) ∷ rest) all found =
            by_test (nat_eq id key) found (All-head HasBytes (key, object) rest all)
            (found_bytes rest (All-tail HasBytes (key, object) rest all))
          where
            by_test : (b : Bool) → cond b (Some object) (lookup (nat_eq id) rest) ≡ Some is.before → 0 < length_of object.span
                → (lookup (nat_eq id) rest ≡ Some is.before → 0 < length_of is.before.span)
                → 0 < length_of is.before.span
            by_test true same_object bytes later = subst (λ (o : Object). 0 < length_of o.span) (inside same_object) bytes
              where
                inside : Some object ≡ Some is.before → object ≡ is.before
                inside e = cc
            by_test false found_later bytes later = later found_later

-- the object under a live id is replaced, or it is freed
pub replaces_live : (old new : Heap) (id size : ℕ) (outcome : Outcome) → IsKept old → 0 < size
    → (is : ReplacesLive old id size outcome new) → HasMoved old None (made_entry is.making id size) id new
replaces_live old new id size outcome kept some is = by is.making is.tries is.follows
  where
    freed_after : (tried : Heap) → HasHistory old tried (λ n. replicate 1 SweepOp) stay 1 → FreesInHeap tried id new
        → HasMoved old None None id new
    freed_after tried first freed =
        let last = frees_last tried new id first.kept freed in
        let policy_is : tried.settings.policy ≡ old.settings.policy = ap (λ (s : Settings). s.policy) first.settings in
        record {
          count = 1;
          last = last.count;
          few = omega arith;
          few_last = last.few;
          clean = last.clean;
          history = told old new
              (λ n. replicate 1 SweepOp ++ (freeing old.settings.policy (n.number_of id) ++ replicate last.count SweepOp))
              stay (1 + last.count) (follow old tried new first last.history)
              (λ n. ap (λ (p : Policy). replicate 1 SweepOp ++ (freeing p (n.number_of id) ++ replicate last.count SweepOp)) policy_is)
              (λ n. refl) refl;
        }

    swept_same : (tried : Heap) → tried ≡ swept_heap old → HasHistory old tried (λ n. replicate 1 SweepOp) stay 1
    swept_same tried tried_is = sweeps_once old tried kept tried_is

    by : (making : Making) → TriesToReplace old id size making is.tried → FollowsReplacing is.tried id making new
        → HasMoved old None (made_entry making id size) id new
    by Made (inl (made, replaced)) follows_is =
        replaced_once old old new id size 0 (omega arith) kept some (same old old kept refl) is.tried replaced follows_is
    by Made (inr (none, replaced)) follows_is =
        replaced_once old (swept_heap old) new id size 1 (omega arith) kept some (sweeps_once old (swept_heap old) kept refl) is.tried
        replaced follows_is
    by NoRoom (inl (never, replaced)) follows_is = absurd (not_made never)
      where
        not_made : NoRoom ≡ Made → ⊥
        not_made e = cc
    by NoRoom (inr (none, (few, no_place, is_same))) freed = freed_after is.tried (swept_same is.tried is_same) freed
    by Full (inl (never, replaced)) follows_is = absurd (not_made never)
      where
        not_made : Full ≡ Made → ⊥
        not_made e = cc
    by Full (inr (none, (many, is_same))) freed = freed_after is.tried (swept_same is.tried is_same) freed

-- ---- every event

-- the quarantine is swept once, or nothing happens
quiet : (old new : Heap) (event : Event) (outcome : Outcome) (count : ℕ) → count ≤ 1
    → HasHistory old new (λ n. replicate count SweepOp) stay count
    → ((clean : Bool) (sweeps : ℕ) → deeds_of event outcome sweeps clean ≡ record {
      cleared = None;
      sweeps = sweeps - 0;
      made = None;
      freed = None;
      is_swept = false;
    })
    → IsDone old event outcome new
quiet old new event outcome count few_count history deeds_are few =
    let sweeps = history.sweeps (omega (arith, few, few_count)) in
    let many : new.totals.sweeps - old.totals.sweeps - 0 ≡ count = omega (arith, sweeps) in
    let deeds : Deeds = record { cleared = None; sweeps = count; made = None; freed = None; is_swept = false } in
    let same_deeds : told_deeds old event outcome new ≡ deeds =
    deeds_are (is_swept_clean new) (new.totals.sweeps - old.totals.sweeps)
    ∙ (λ i. record { cleared = None; sweeps = many i; made = None; freed = None; is_swept = false }) in
    subst (λ (d : Deeds). HasDeeds old new d) (sym same_deeds) (record {
      count = count;
      few = omega (arith, few_count);
      history = told old new (λ n. deed_operations old.settings.policy n deeds) stay count history
          (λ n. sym (append-nil (replicate count SweepOp))) (λ n. refl) refl;
    })

remakes : (old new : Heap) (from to size : ℕ) (outcome : Outcome) → IsKept old
    → Remakes old from to (max size 1) outcome new → IsDone old (Reallocate from to size) outcome new
remakes old new from to size outcome kept (inl (none, is)) =
    allocated old new (Reallocate from to size) to 1 (max size 1) outcome is.told true kept (some_size size)
    (unit-some old.settings.align (max size 1)) is.allocates
    (λ clean sweeps. ap (λ (o : Outcome). deeds_of (Reallocate from to size) o sweeps clean)
    (is.is_told ∙ ap (λ (o : Outcome). record o { unknown = true }) is.allocates.is_told))
  where
    some_size : (size : ℕ) → 0 < max size 1
    some_size size = omega arith
remakes old new from to size outcome kept (inr (live, inl (one, is))) =
    moved_deeds old new (Reallocate from to size) outcome None (made_entry is.making to (max size 1)) from
    (subst (λ (id : ℕ). HasMoved old None (made_entry is.making to (max size 1)) id new) (sym one)
    (replaces_live old new to (max size 1) outcome kept (some_size size) is))
    (λ clean sweeps. ap (λ (o : Outcome). deeds_of (Reallocate from to size) o sweeps clean) is.is_told)
  where
    some_size : (size : ℕ) → 0 < max size 1
    some_size size = omega arith
remakes old new from to size outcome kept (inr (live, inr (two, is))) =
    moved_deeds old new (Reallocate from to size) outcome (if_live is.allocates.was_live to)
    (made_entry is.allocates.making to (max size 1)) from
    (moves old is.made new from to (max size 1) outcome kept (some_size size) two is.allocates is.frees)
    (λ clean sweeps. ap (λ (o : Outcome). deeds_of (Reallocate from to size) o sweeps clean) is.allocates.is_told)
  where
    some_size : (size : ℕ) → 0 < max size 1
    some_size size = omega arith

-- no object keeps its place if reallocations move objects
reallocates : (old new : Heap) (from to size : ℕ) (outcome : Outcome) → IsKept old
    → Reallocates old from to (max size 1) outcome new → IsDone old (Reallocate from to size) outcome new
reallocates old new from to size outcome kept is =
    remakes old new from to size outcome kept
    (subst (λ (found : Option Object). MatchOption found (Remakes old from to (max size 1) outcome new)
    (λ object. KeepsPlace old from to object (max size 1) outcome new)) none is)
  where
    none : kept_object old from (max size 1) ≡ None
    none =
        ap (λ (r : Reallocation). if is_keep r
        then option_and_then (λ object. if can_take old.settings.align 1 (max size 1) object.span then Some object else None) (object_under old from)
        else None) kept.moves

freed_alone : (old new : Heap) (id : ℕ) (outcome : Outcome) (is_live : Bool) → IsKept old → FreesIfLive old id is_live new
    → outcome ≡ outcome_of false (if is_live then false else true) None → IsDone old (Free id) outcome new
freed_alone old new id outcome true kept freed is_told =
    let last = frees_last old new id kept freed in
    moved_deeds old new (Free id) outcome None None id
    (record {
      count = 0;
      last = last.count;
      few = omega arith;
      few_last = last.few;
      clean = last.clean;
      history = told old new (λ n. freeing old.settings.policy (n.number_of id) ++ replicate last.count SweepOp) stay (0 + last.count)
          last.history (λ n. refl) (λ n. refl) (omega arith);
    })
    (λ clean sweeps. ap (λ (o : Outcome). deeds_of (Free id) o sweeps clean) is_told)
freed_alone old new id outcome false kept (none, is) is_told =
    quiet old new (Free id) outcome 0 (omega arith) (same old new kept is)
    (λ clean sweeps. ap (λ (o : Outcome). deeds_of (Free id) o sweeps clean) is_told)

asked : (old new : Heap) (outcome : Outcome) (of_trace : Bool) → IsKept old → new ≡ (if of_trace then swept_heap old else old)
    → outcome ≡ outcome_of false false None → IsDone old Sweep outcome new
asked old new outcome true kept is is_told =
    quiet old new Sweep outcome 1 (omega arith) (sweeps_once old new kept is)
    (λ clean sweeps. ap (λ (o : Outcome). deeds_of Sweep o sweeps clean) is_told)
asked old new outcome false kept is is_told =
    quiet old new Sweep outcome 0 (omega arith) (same old new kept is)
    (λ clean sweeps. ap (λ (o : Outcome). deeds_of Sweep o sweeps clean) is_told)

pub event_deeds : (old new : Heap) (event : Event) (outcome : Outcome) → IsKept old → AsksForUnit old.settings.align event
    → IsEvent old event outcome new → old.totals.sweeps + 3 < 2 ^ 64 → HasDeeds old new (told_deeds old event outcome new)
event_deeds old new (Allocate id size align) outcome kept aligned is =
    allocated old new (Allocate id size align) id align (max size 1) outcome outcome false kept (some_size size) aligned is
    (λ clean sweeps. ap (λ (o : Outcome). deeds_of (Allocate id size align) o sweeps clean) is.is_told)
  where
    some_size : (size : ℕ) → 0 < max size 1
    some_size size = omega arith
event_deeds old new (Clear id size) outcome kept aligned is =
    allocated old new (Clear id size) id 1 (max size 1) outcome outcome false kept (some_size size)
    (unit-some old.settings.align (max size 1)) is
    (λ clean sweeps. ap (λ (o : Outcome). deeds_of (Clear id size) o sweeps clean) is.is_told)
  where
    some_size : (size : ℕ) → 0 < max size 1
    some_size size = omega arith
event_deeds old new (Reallocate from to size) outcome kept aligned is = reallocates old new from to size outcome kept is
event_deeds old new (Free id) outcome kept aligned is = freed_alone old new id outcome is.is_live kept is.frees is.is_told
event_deeds old new Sweep outcome kept aligned (is, is_told) = asked old new outcome (is_of_the_trace old.settings.policy) kept is is_told
event_deeds old new (Clock time) outcome kept aligned (is, is_told) =
    quiet old new (Clock time) outcome 0 (omega arith) (same old new kept is)
    (λ clean sweeps. ap (λ (o : Outcome). deeds_of (Clock time) o sweeps clean) is_told)
