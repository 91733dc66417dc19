-- The properties that every heap of a script keeps. Only private contracts cite these definitions.
use Rattle.std.specs.Prelude.{ℕ, ◌≡◌, ◌<◌, ◌≤◌, All, cond, nat_eq, sum_by}
use Rattle.cc_bounds.specs.Span.{length_of}
use Rattle.cc_heap.specs.declared.object.Object.{Object}
use Rattle.cc_heap.specs.declared.reallocation.Reallocation.TheVariants.{Move}
use Rattle.cc_heap.specs.Heap.{Heap}
use Rattle.cc_heap.specs.Memory.{object_span}

-- 1 for an entry of the id.
abbrev pub id_weight : (id : ℕ) → ℕ × Object → ℕ
id_weight id entry = cond (nat_eq id entry.0) 1 0

-- AreOnce holds if each id has one entry at most.
abbrev pub AreOnce : Heap → Type 0
AreOnce heap = (id : ℕ) → sum_by (id_weight id) heap.memory.live ≤ 1

-- HasBytes holds if the object of an entry has bytes.
abbrev pub HasBytes : ℕ × Object → Type 0
HasBytes entry = 0 < length_of (object_span entry)

-- IsKept holds if each id has one entry at most, each object has bytes, and reallocations move objects.
pub record IsKept (heap : Heap) : Type 0 where
  pub once : AreOnce heap
  pub some : All HasBytes heap.memory.live
  pub moves : heap.settings.realloc ≡ Move
