-- The ids of the objects of an event.
use Rattle.std.specs.Prelude.{ℕ, Option, Some, None}
use Rattle.cc_heap.specs.declared.event.Event.{Event}
use Rattle.cc_heap.specs.declared.event.Event.TheVariants.{Allocate, Clear, Reallocate, Free}

-- The id that an event frees.
abbrev pub freed_id : Event → Option ℕ
freed_id (Reallocate old new size) = Some old
freed_id (Free id) = Some id
freed_id _ = None

-- The id under which an event makes an object.
abbrev pub made_id : Event → Option ℕ
made_id (Allocate id size align) = Some id
made_id (Clear id size) = Some id
made_id (Reallocate old new size) = Some new
made_id _ = None
