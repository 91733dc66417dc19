-- The alignment that an event requests.
use Rattle.std.specs.Int.{IsPowerOfTwo}
use Rattle.cc_heap.specs.declared.event.Event.{Event}
use Rattle.cc_heap.specs.declared.event.Event.TheVariants.{Allocate}

-- HasAlignment holds if an alignment that the event requests is a power of two.
abbrev pub HasAlignment : Event → Type 0
HasAlignment (Allocate id size align) = IsPowerOfTwo align
HasAlignment _ = Unit
