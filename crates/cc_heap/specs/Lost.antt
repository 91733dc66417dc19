-- A heap over a trace, and the ids whose objects were not made: the lost ones. An id is lost until the
-- next event that frees it, or makes an object under it.
use Rattle.std.specs.Prelude.{ℕ, Bool, true, false, not, ◌≡◌, ◌<◌, ◌&&◌, cond, get_or, nat_eq, List, [], ◌∷◌, Option, Some, None}
use Rattle.std.specs.List.{list_any}
use Rattle.cc_heap.specs.declared.event.Event.{Event}
use Rattle.cc_heap.specs.Ids.{freed_id, made_id}
use Rattle.cc_heap.specs.declared.making.Making.{Making}
use Rattle.cc_heap.specs.declared.making.Making.TheVariants.{NoRoom, Full}
use Rattle.cc_heap.specs.declared.outcome.Outcome.{Outcome}
use Rattle.cc_heap.specs.Events.{IsEvent}
use Rattle.cc_heap.specs.declared.settings.Settings.{Settings}
use Rattle.cc_heap.specs.declared.sizes.SizeTotals.{SizeTotals}
use Rattle.cc_heap.specs.Heap.{Heap, empty_heap}
use Rattle.cc_heap.specs.Run.{ArePassedBy, Moment}
use Rattle.cc_heap.specs.Sizes.{made_size, no_objects, no_sizes, sizes_after, with_made_size}

-- A heap, the ids that are lost, in no order, and the numbers of the objects that were made by the powers
-- of two of their sizes.
pub record RunState : Type 0 where
  pub heap : Heap
  pub lost : List ℕ
  pub sizes : List SizeTotals

-- A run of a heap that has held nothing, before the first event.
abbrev pub empty_run : Settings → RunState
empty_run settings = record { heap = empty_heap settings; lost = []; sizes = no_sizes }

-- Whether an id is lost.
abbrev pub is_lost : List ℕ → ℕ → Bool
is_lost lost id = list_any (nat_eq id) lost

-- Whether the id is lost, if there is one.
abbrev pub is_lost_one : List ℕ → Option ℕ → Bool
is_lost_one lost (Some id) = is_lost lost id
is_lost_one lost None = false

-- Whether an object was to be made, and was not.
abbrev pub is_not_made : Option Making → Bool
is_not_made (Some NoRoom) = true
is_not_made (Some Full) = true
is_not_made _ = false

-- Whether an id is lost, once this id, if there is one, is noted as lost or not.
abbrev pub noted : Option ℕ → (is_lost_now : Bool) → (ℕ → Bool) → ℕ → Bool
noted (Some id) is_lost_now lost other = cond (nat_eq id other) is_lost_now (lost other)
noted None is_lost_now lost other = lost other

-- The outcome of an event on an id that is lost or is not.
abbrev pub with_lost : Outcome → (was_lost : Bool) → Outcome
with_lost told was_lost = record told {
  unknown = told.unknown && not was_lost;
  lost = told.unknown && was_lost;
}

-- IsRunEvent holds if the heap takes the event. An id that the event frees is then not lost, and the id of an
-- object that it could not make is lost. The outcome says of an id that the event frees whether it was lost,
-- and then not unknown. An object that the event makes counts in the row of its size.
pub record IsRunEvent (old : RunState) (event : Event) (outcome : Outcome) (new : RunState) : Type 0 where
  pub told : Outcome
  pub is_event : IsEvent old.heap event told new.heap
  pub is_told : outcome ≡ with_lost told (is_lost_one old.lost (freed_id event))
  pub lost : (id : ℕ) → is_lost new.lost id
      ≡ noted (made_id event) (is_not_made told.making) (noted (freed_id event) false (is_lost old.lost)) id
  pub sizes : new.sizes ≡ with_made_size old.heap.settings.align (made_size event told.making) old.sizes

-- RunsNoting holds if the events turn the run `old` into `new`, each from the run that the one before left.
abbrev pub RunsNoting : RunState → List Event → RunState → Type 0
RunsNoting old [] new = new ≡ old
RunsNoting old (event ∷ events) new =
    (outcome : Outcome) × (next : RunState) × IsRunEvent old event outcome next × RunsNoting next events new

-- HasSizes holds if the events lead to the heap of the run from one that held nothing, and the row of each
-- power of two has the numbers of all states that they pass.
pub record HasSizes (events : List Event) (run : RunState) : Type 0 where
  pub moments : List Moment
  pub passed : ArePassedBy (empty_heap run.heap.settings) events moments run.heap
  pub rows : (power : ℕ) → power < 64 → get_or run.sizes power no_objects ≡ sizes_after power no_objects moments
