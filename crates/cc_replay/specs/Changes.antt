-- The changes that a heap passes, one after another, each with the object that it makes or frees.
use Rattle.std.specs.Prelude.{ℕ, Bool, true, nat_le, ◌≡◌, ◌<◌, ◌≤◌, List, [], ◌∷◌, ◌++◌, Some, IsNone}
use Rattle.cc_bounds.specs.declared.align.Align.{Align}
use Rattle.cc_placer.specs.Align.{unit_of}
use Rattle.cc_heap.specs.declared.event.Event.{Event}
use Rattle.cc_heap.specs.declared.event.Event.TheVariants.{Allocate}
use Rattle.cc_heap.specs.declared.object.Object.{Object}
use Rattle.cc_heap.specs.declared.outcome.Outcome.{Outcome}
use Rattle.cc_heap.specs.Memory.{memory_object}
use Rattle.cc_heap.specs.Heap.{FreesHeapObject, Heap, MakesHeapObject, object_under, swept_heap}
use Rattle.cc_heap.specs.Events.{IsEvent, size_of}

-- A change: an object is made under an id, an object is freed, an object is made in place of another
-- under the same id, or the quarantine is swept.
pub data Change : Type 0 where
  Make : (id : ℕ) (object : Object) → Change
  Free : (id : ℕ) (object : Object) → Change
  Replace : (id : ℕ) (before object : Object) → Change
  Sweep : Change

-- MakesThis holds if `object` is made under the id.
pub record MakesThis (old : Heap) (id : ℕ) (object : Object) (new : Heap) : Type 0 where
  pub makes : MakesHeapObject old id object.align object.size new
  pub is : object ≡ memory_object old.settings.align object.align makes.start object.size

-- ReplacesThis holds if `object` is made under a live id while the one before it is held, and then that
-- one is freed.
pub record ReplacesThis (old : Heap) (id : ℕ) (before object : Object) (new : Heap) : Type 0 where
  pub is_live : object_under old id ≡ Some before
  pub made : Heap
  pub makes : MakesThis old id object made
  pub frees : FreesHeapObject made id before new

-- IsChange holds if the change turns the heap `old` into `new`.
abbrev pub IsChange : Heap → Change → Heap → Type 0
IsChange old (Make id object) new = IsNone (object_under old id) × MakesThis old id object new
IsChange old (Free id object) new = FreesHeapObject old id object new
IsChange old (Replace id before object) new = ReplacesThis old id before object new
IsChange old Sweep new = new ≡ swept_heap old

-- Changes holds if the changes turn the heap `old` into `new`, each from the heap that the one before
-- left.
abbrev pub Changes : Heap → List Change → Heap → Type 0
Changes old [] new = new ≡ old
Changes old (change ∷ changes) new = (next : Heap) × IsChange old change next × Changes next changes new

-- AreChangesOf holds if the events make these changes: each event has changes that lead from the heap
-- before it to the heap after it.
abbrev pub AreChangesOf : Heap → List Event → List Change → Heap → Type 0
AreChangesOf old [] changes new = (changes ≡ []) × (new ≡ old)
AreChangesOf old (event ∷ events) changes new =
    (mine : List Change) × (rest : List Change) × (outcome : Outcome) × (next : Heap)
    × (changes ≡ mine ++ rest) × IsEvent old event outcome next × Changes old mine next
    × AreChangesOf next events rest new

-- ---- Changes that a machine can follow.

-- The objects that the changes make, in order.
abbrev pub objects_made : List Change → List Object
objects_made [] = []
objects_made (Make id object ∷ changes) = object ∷ objects_made changes
objects_made (Replace id before object ∷ changes) = object ∷ objects_made changes
objects_made (_ ∷ changes) = objects_made changes

-- CanBePlanned holds if a machine can make the object where the heap does: it has at least one byte, and
-- the alignment that it was requested with is at most the unit of its size, of which its start is a
-- multiple in any case.
pub record CanBePlanned (align : Align) (object : Object) : Type 0 where
  pub some : 0 < object.size
  pub aligned : object.align ≤ unit_of align object.size

-- AsksForUnit holds if the alignment that an event requests is at most the unit of its size.
abbrev pub AsksForUnit : Align → Event → Type 0
AsksForUnit align (Allocate id size requested) = requested ≤ unit_of align (size_of size)
AsksForUnit align _ = Unit {0}

-- Whether the alignment that an event requests is at most the unit of its size.
abbrev pub asks_for_unit : Align → Event → Bool
asks_for_unit align (Allocate id size requested) = nat_le requested (unit_of align (size_of size))
asks_for_unit align _ = true
