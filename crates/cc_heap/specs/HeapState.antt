-- The place of an object, and the invariant that ties a heap to its placer, and its sums to what it
-- holds. No public clause cites this file.
use Rattle.std.specs.Prelude.{ℕ, ◌≡◌, ◌+◌, ◌≤◌, ◌^◌, List, [], ◌∷◌, ◌++◌, Option, Some, None, length}
use Rattle.std.specs.List.Sorted.{IsPermutation}
use Rattle.cc_bounds.specs.declared.span.Span.{Span}
use Rattle.cc_placer.specs.PlacerState.{IsPoolSpan}
use Rattle.cc_placer.specs.Placement.{HasNoPlace, HaveSameSpans, IsPlacement}
use Rattle.cc_heap.specs.declared.object.Object.{Object}
use Rattle.cc_heap.specs.declared.usage.Usage.{Usage}
use Rattle.cc_heap.specs.declared.making.Making.{Making}
use Rattle.cc_heap.specs.declared.making.Making.TheVariants.{Made}
use Rattle.cc_heap.specs.Totals.{with_usage}
use Rattle.cc_bounds.specs.declared.align.Align.{Align}
use Rattle.cc_placer.specs.Align.{padded_size_for}
use Rattle.cc_heap.specs.Memory.{IsSoundMemory, memory_spans, start_unit, usage_of}
use Rattle.cc_heap.specs.Heap.{Attempts, Heap, MakesHeapObject, object_under, quarantined_with}

-- IsRoomFor holds if the result is the span of an object of `size` bytes at its placement, or none if
-- there is no place.
abbrev pub IsRoomFor : Align → (requested : ℕ) (pool : Span) (spans : List Span) (size : ℕ) → Option Span → Type 0
IsRoomFor align requested pool spans size (Some span) =
    IsPlacement pool spans (padded_size_for align size) (start_unit align requested size) span.base
    × (span.top ≡ span.base + padded_size_for align size)
IsRoomFor align requested pool spans size None =
    HasNoPlace pool spans (padded_size_for align size) (start_unit align requested size)

-- HoldsSpans holds if the placer may be holding these spans, in whatever order.
abbrev pub HoldsSpans : (holds : List Span → Type 0) → List Span → Type 0
HoldsSpans holds spans = (others : List Span) → HaveSameSpans spans others → holds others

-- IsHeap holds if these are the fields of a heap: its usage, the number of spans for which its
-- quarantine has memory, and a placer of this limit and pool, which
-- may be holding these lists of spans.
pub record IsHeap (heap : Heap) (usage : Usage) (capacity placer_limit : ℕ) (placer_pool : Option Span)
    (holds : List Span → Type 0) : Type 0 where
  pub sound : IsSoundMemory heap.settings.align heap.memory
  pub usage_is : usage ≡ usage_of heap.memory
  pub reserved : length heap.memory.live + length heap.memory.quarantined ≤ capacity
  pub at_most : length heap.memory.live + length heap.memory.quarantined ≤ heap.settings.limit
  pub few : heap.settings.limit ≤ 2 ^ 24
  pub is_pool : IsPoolSpan heap.settings.pool
  pub high_fits : heap.totals.high ≤ 2 ^ 64
  pub limit_is : placer_limit ≡ heap.settings.limit
  pub pool_is : placer_pool ≡ Some heap.settings.pool
  pub held_is : HoldsSpans holds (memory_spans heap.memory)

-- IsQuarantined holds if the object under the id joined the quarantine, and no state is counted yet.
pub record IsQuarantined (old : Heap) (id : ℕ) (object : Object) (new : Heap) : Type 0 where
  pub live : List (ℕ × Object)
  pub takes : IsPermutation old.memory.live ((id, object) ∷ live)
  pub is_new : new ≡ record old {
    memory = record { live = live; quarantined = old.memory.quarantined ++ object.span ∷ [] };
  }

-- QuarantinesLive holds if the object that is live under the id joined the quarantine.
pub record QuarantinesLive (old : Heap) (id : ℕ) (new : Heap) : Type 0 where
  pub object : Object
  pub is_live : object_under old id ≡ Some object
  pub quarantines : IsQuarantined old id object new

-- IsReplaced holds if an object was made under the id, and the one before it joined the quarantine,
-- with no state counted for that yet.
pub record IsReplaced (old : Heap) (id requested size : ℕ) (new : Heap) : Type 0 where
  pub before : Object
  pub is_live : object_under old id ≡ Some before
  pub made : Heap
  pub makes : MakesHeapObject old id requested size made
  pub quarantines : IsQuarantined made id before new

-- PutsOver holds if the object under the id is replaced, or the new one has no place, and nothing
-- changes.
abbrev pub PutsOver : Heap → (id requested size : ℕ) → Making → Heap → Type 0
PutsOver old id requested size Made new = IsReplaced old id requested size new
PutsOver old id requested size making new = Attempts old id requested size making new

-- ReleasesLast holds if the last quarantined span is released, and no state is counted.
pub record ReleasesLast (old new : Heap) : Type 0 where
  pub span : Span
  pub last : old.memory.quarantined ≡ new.memory.quarantined ++ span ∷ []
  pub is_new : new ≡ record old {
    memory = record { live = old.memory.live; quarantined = new.memory.quarantined };
  }

-- Settles holds if the span that was quarantined last stays, if there is a quarantine, and the state
-- is counted.
abbrev pub Settles : Heap → Heap → Type 0
Settles old new =
    (spans : List Span) (span : Span) → old.memory.quarantined ≡ spans ++ span ∷ [] → new ≡ record old {
      memory = record { live = old.memory.live; quarantined = quarantined_with old.settings.policy spans span };
      totals = with_usage old.totals (usage_of (record {
        live = old.memory.live;
        quarantined = quarantined_with old.settings.policy spans span;
      }));
    }
