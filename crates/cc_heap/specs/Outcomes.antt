-- The outcomes of events that are refused.
use Rattle.std.specs.Prelude.{Bool, true, false, ◌||◌, Option, Some}
use Rattle.cc_heap.specs.declared.making.Making.{Making}
use Rattle.cc_heap.specs.declared.making.Making.TheVariants.{NoRoom, Full}
use Rattle.cc_heap.specs.declared.outcome.Outcome.{Outcome}

-- Whether there was no place for an object.
abbrev pub is_no_room : Option Making → Bool
is_no_room (Some NoRoom) = true
is_no_room _ = false

-- Whether an object was one more than the heap can hold.
abbrev pub is_full : Option Making → Bool
is_full (Some Full) = true
is_full _ = false

-- Whether an event is refused: the id that it frees is not live or is lost, the id of a new object is
-- live, or the object cannot be made.
abbrev pub is_refused : Outcome → Bool
is_refused outcome =
    outcome.unknown || outcome.was_live || outcome.lost || is_no_room outcome.making || is_full outcome.making
