-- The effect of an event on a heap.
--
-- An object without a place, or beyond the limit, gets one sweep and one more attempt. A reallocation
-- that moves an object holds both objects at once, before it frees the old one. One that keeps an
-- object in its place quarantines and sweeps nothing, and its state counts in the peaks.
use Rattle.std.specs.Prelude.{ℕ, Bool, true, false, ◌≡◌, ◌≢◌, ◌⊎◌, ◌≤◌, max, Option, Some, None, IsSome, IsNone, MatchOption, length, if◌then◌else◌}
use Rattle.cc_placer.specs.Placement.{HasNoPlace}
use Rattle.cc_heap.specs.declared.event.Event.{Event}
use Rattle.cc_heap.specs.declared.event.Event.TheVariants.{Allocate, Clear, Reallocate, Free, Sweep, Clock}
use Rattle.cc_heap.specs.declared.making.Making.{Making}
use Rattle.cc_heap.specs.declared.making.Making.TheVariants.{Made}
use Rattle.cc_heap.specs.declared.object.Object.{Object}
use Rattle.cc_heap.specs.declared.outcome.Outcome.{Outcome}
use Rattle.cc_placer.specs.Align.{padded_size_for}
use Rattle.cc_heap.specs.Memory.{memory_spans, start_unit}
use Rattle.cc_heap.specs.Policy.{is_of_the_trace}
use Rattle.cc_heap.specs.Heap.{Attempts, FreesHeapObject, Heap, KeepsHeapObject, MakesHeapObject, MustSweep, kept_object, object_under, swept_heap}

-- The size of an object: a requested size of 0 is treated as 1.
abbrev pub size_of : (requested : ℕ) → ℕ
size_of requested = max requested 1

-- The outcome of an event that makes no object, and of one that does.
abbrev pub outcome_of : (was_live unknown : Bool) → Option Making → Outcome
outcome_of was_live unknown making =
    record { was_live = was_live; unknown = unknown; lost = false; making = making }

-- ---- A free.

-- FollowsPolicy holds if the quarantine is swept if the policy sweeps, and otherwise nothing changes.
abbrev pub FollowsPolicy : Heap → Heap → Type 0
FollowsPolicy old new = (MustSweep old × (new ≡ swept_heap old)) ⊎ ((¬ MustSweep old) × (new ≡ old))

-- FreesInHeap holds if the object that is live under the id is freed, and then the policy is followed.
pub record FreesInHeap (old : Heap) (id : ℕ) (new : Heap) : Type 0 where
  pub object : Object
  pub is_live : object_under old id ≡ Some object
  pub freed : Heap
  pub frees : FreesHeapObject old id object freed
  pub follows : FollowsPolicy freed new

-- FreesIfLive holds if the id is live and its object is freed, or it is not live and nothing changes.
abbrev pub FreesIfLive : Heap → (id : ℕ) → (is_live : Bool) → Heap → Type 0
FreesIfLive old id true new = FreesInHeap old id new
FreesIfLive old id false new = IsNone (object_under old id) × (new ≡ old)

-- ---- An object is made.

-- HasNoRoomInHeap holds if an object of this size and requested alignment cannot be made: there is no place
-- for it, or as many spans are held as the limit allows.
abbrev pub HasNoRoomInHeap : Heap → (requested size : ℕ) → Type 0
HasNoRoomInHeap heap requested size =
    HasNoPlace heap.settings.pool (memory_spans heap.memory) (padded_size_for heap.settings.align size)
    (start_unit heap.settings.align requested size)
    ⊎ (heap.settings.limit ≤ length (memory_spans heap.memory))

-- Tries holds if an object is made, or otherwise the quarantine is swept once, and the making attempted
-- again.
abbrev pub Tries : Heap → (id requested size : ℕ) → Making → Heap → Type 0
Tries old id requested size making new =
    ((making ≡ Made) × MakesHeapObject old id requested size new)
    ⊎ (HasNoRoomInHeap old requested size × Attempts (swept_heap old) id requested size making new)

-- AllocatesInHeap holds if the object under the id is freed, if it is live, and then one is made under it.
pub record AllocatesInHeap (old : Heap) (id requested size : ℕ) (outcome : Outcome) (new : Heap) : Type 0 where
  pub was_live : Bool
  pub cleared : Heap
  pub clears : FreesIfLive old id was_live cleared
  pub making : Making
  pub tries : Tries cleared id requested size making new
  pub is_told : outcome ≡ outcome_of was_live false (Some making)

-- ---- An object is made in place of another.

-- Replaces holds if an object is made under a live id while the one under it is held, and then that
-- one is freed.
pub record Replaces (old : Heap) (id size : ℕ) (new : Heap) : Type 0 where
  pub before : Object
  pub is_live : object_under old id ≡ Some before
  pub made : Heap
  pub makes : MakesHeapObject old id 1 size made
  pub frees : FreesHeapObject made id before new

-- AttemptsToReplace holds if the object under the id is replaced, or the new one has no place, and nothing
-- changes.
abbrev pub AttemptsToReplace : Heap → (id size : ℕ) → Making → Heap → Type 0
AttemptsToReplace old id size Made new = Replaces old id size new
AttemptsToReplace old id size making new = Attempts old id 1 size making new

-- TriesToReplace holds if the object is replaced, or otherwise the quarantine is swept once, and it is
-- attempted again.
abbrev pub TriesToReplace : Heap → (id size : ℕ) → Making → Heap → Type 0
TriesToReplace old id size making new =
    ((making ≡ Made) × Replaces old id size new)
    ⊎ (HasNoRoomInHeap old 1 size × AttemptsToReplace (swept_heap old) id size making new)

-- FollowsReplacing holds if the policy is followed once an object is replaced, or the object is freed
-- nevertheless if it was not.
abbrev pub FollowsReplacing : Heap → (id : ℕ) → Making → Heap → Type 0
FollowsReplacing old id Made new = FollowsPolicy old new
FollowsReplacing old id _ new = FreesInHeap old id new

-- ReplacesLive holds if an object is made under a live id in place of the one under it.
pub record ReplacesLive (old : Heap) (id size : ℕ) (outcome : Outcome) (new : Heap) : Type 0 where
  pub making : Making
  pub tried : Heap
  pub tries : TriesToReplace old id size making tried
  pub follows : FollowsReplacing tried id making new
  pub is_told : outcome ≡ outcome_of false false (Some making)

-- Moves holds if an object is made under one id while that under another is held, and then that one is
-- freed.
pub record Moves (old : Heap) (from to size : ℕ) (outcome : Outcome) (new : Heap) : Type 0 where
  pub made : Heap
  pub allocates : AllocatesInHeap old to 1 size outcome made
  pub frees : FreesInHeap made from new

-- AllocatesUnknown holds if there is no object to replace, and one is made.
pub record AllocatesUnknown (old : Heap) (id size : ℕ) (outcome : Outcome) (new : Heap) : Type 0 where
  pub told : Outcome
  pub allocates : AllocatesInHeap old id 1 size told new
  pub is_told : outcome ≡ record told { unknown = true }

-- Remakes holds if an object is made in place of the one under an id, if that is live.
abbrev pub Remakes : Heap → (from to size : ℕ) → Outcome → Heap → Type 0
Remakes old from to size outcome new =
    (IsNone (object_under old from) × AllocatesUnknown old to size outcome new)
    ⊎ (IsSome (object_under old from)
    × (((from ≡ to) × ReplacesLive old to size outcome new) ⊎ ((from ≢ to) × Moves old from to size outcome new)))

-- ClearsOther holds if the object under `to` is freed, if that is another id than `from` and live.
abbrev pub ClearsOther : Heap → (from to : ℕ) → (was_live : Bool) → Heap → Type 0
ClearsOther old from to was_live new =
    ((from ≡ to) × (was_live ≡ false) × (new ≡ old)) ⊎ ((from ≢ to) × FreesIfLive old to was_live new)

-- KeepsPlace holds if the object under `from` stays in its place and has the id `to` from then on. An object
-- that was live under `to` is freed first.
pub record KeepsPlace (old : Heap) (from to : ℕ) (object : Object) (size : ℕ) (outcome : Outcome)
    (new : Heap) : Type 0 where
  pub was_live : Bool
  pub cleared : Heap
  pub clears : ClearsOther old from to was_live cleared
  pub keeps : KeepsHeapObject cleared from to object 1 size new
  pub is_told : outcome ≡ outcome_of was_live false None

-- Reallocates holds if the object under an id keeps its bytes, if it can and shall, and otherwise an object is
-- made in place of it.
abbrev pub Reallocates : Heap → (from to size : ℕ) → Outcome → Heap → Type 0
Reallocates old from to size outcome new =
    MatchOption (kept_object old from size) (Remakes old from to size outcome new)
    (λ object. KeepsPlace old from to object size outcome new)

-- ---- An event.

-- FreesOrNot holds if the object under the id is freed, or the id is not live, and nothing changes.
pub record FreesOrNot (old : Heap) (id : ℕ) (outcome : Outcome) (new : Heap) : Type 0 where
  pub is_live : Bool
  pub frees : FreesIfLive old id is_live new
  pub is_told : outcome ≡ outcome_of false (if is_live then false else true) None

-- The heap after an event that requests a sweep: swept if the policy is the trace's.
abbrev pub swept_if_asked : Heap → Heap
swept_if_asked heap = if is_of_the_trace heap.settings.policy then swept_heap heap else heap

-- IsEvent holds if the event turns the heap `old` into `new`, with this outcome.
abbrev pub IsEvent : Heap → Event → Outcome → Heap → Type 0
IsEvent old (Allocate id size align) outcome new =
    AllocatesInHeap old id align (size_of size) outcome new
IsEvent old (Clear id size) outcome new =
    AllocatesInHeap old id 1 (size_of size) outcome new
IsEvent old (Reallocate from to size) outcome new = Reallocates old from to (size_of size) outcome new
IsEvent old (Free id) outcome new = FreesOrNot old id outcome new
IsEvent old Sweep outcome new = (new ≡ swept_if_asked old) × (outcome ≡ outcome_of false false None)
IsEvent old (Clock time) outcome new = (new ≡ old) × (outcome ≡ outcome_of false false None)

-- ---- An event for which an allocation fails.

-- IsSweptOrNot holds if the quarantine is swept, or nothing changes.
abbrev pub IsSweptOrNot : Heap → Heap → Type 0
IsSweptOrNot old new = (new ≡ old) ⊎ (new ≡ swept_heap old)

-- FailsToMake holds if the object under the id is freed, if it is live, and then the quarantine is swept or
-- not. No object is made.
pub record FailsToMake (old : Heap) (id : ℕ) (new : Heap) : Type 0 where
  pub was_live : Bool
  pub cleared : Heap
  pub clears : FreesIfLive old id was_live cleared
  pub sweeps : IsSweptOrNot cleared new

-- FailsToReallocate holds if no object is made in place of another: one under a live id stays, and the
-- quarantine is swept or not, or an object under the new id is freed.
abbrev pub FailsToReallocate : Heap → (from to : ℕ) → Heap → Type 0
FailsToReallocate old from to new =
    ((from ≡ to) × IsSome (object_under old from) × IsSweptOrNot old new) ⊎ FailsToMake old to new

-- FailsInEvent holds if an allocation fails in the event, and turns the heap `old` into `new`. It can fail only
-- in an event that makes an object or gives one another id, and none is made.
abbrev pub FailsInEvent : Heap → Event → Heap → Type 0
FailsInEvent old (Allocate id size align) new = FailsToMake old id new
FailsInEvent old (Clear id size) new = FailsToMake old id new
FailsInEvent old (Reallocate from to size) new = FailsToReallocate old from to new
FailsInEvent old event new = ⊥
