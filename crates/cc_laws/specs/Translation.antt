-- The replies of a machine that takes the operations of the changes of a heap, and the script that has them.
use Rattle.std.specs.Prelude.{◌≡◌, ◌≤◌, ℕ, List, [], ◌∷◌, ◌++◌, length, map, Ok}
use Rattle.std.specs.List.{AllByRecursion}
use Rattle.cc_bounds.specs.declared.span.Span.{Span}
use Rattle.cc_io.specs.Lines.{lines_of, rest_of}
use Rattle.cc_values.specs.declared.op.Op.{Op}
use Rattle.cc_values.specs.declared.reply.Reply.{Reply}
use Rattle.cc_values.specs.declared.reply.Reply.TheVariants.{Allocated, Refused}
use Rattle.cc_placer.specs.Placement.{HaveSameSpans}
use Rattle.cc_syntax.specs.Commands.{operation_of}
use Rattle.cc_machine.specs.State.{State}
use Rattle.cc_machine.specs.Objects.{held_spans}
use Rattle.cc_machine.specs.Run.{Run}
use Rattle.cc_heap.specs.declared.event.Event.{Event}
use Rattle.cc_heap.specs.declared.object.Object.{Object}
use Rattle.cc_heap.specs.declared.settings.Settings.{Settings}
use Rattle.cc_heap.specs.Memory.{memory_spans as heap_spans}
use Rattle.cc_heap.specs.Heap.{Heap, empty_heap}
use Rattle.cc_replay.specs.declared.reading.Progress.{Progress}
use Rattle.cc_replay.specs.declared.reading.Progress.TheVariants.{Running}
use Rattle.cc_replay.specs.Changes.{AreChangesOf, CanBePlanned, Change, Changes, objects_made}
use Rattle.cc_replay.specs.Operations.{no_numbers, operation_lines, operations_of}
use Rattle.cc_replay.specs.Script.{most_objects}

-- ---- The replies.

-- IsAccepted holds if a reply is not a refusal.
abbrev pub IsAccepted : Reply → Type 0
IsAccepted (Refused refusal) = ⊥
IsAccepted _ = Unit {0}

-- The bounds of the objects that were made by the replies, in order.
abbrev pub spans_in : List Reply → List Span
spans_in [] = []
spans_in (Allocated number slot word span held ∷ replies) = span ∷ spans_in replies
spans_in (_ ∷ replies) = spans_in replies

-- The spans of objects.
abbrev pub spans_of : List Object → List Span
spans_of [] = []
spans_of (object ∷ objects) = object.span ∷ spans_of objects

-- PlacesAlike holds if no operation is refused, the objects that the machine made have the spans of those
-- that the heap made, in order, and both hold the same spans in the end.
pub record PlacesAlike (changes : List Change) (heap : Heap) (replies : List Reply) (state : State) : Type 0 where
  pub accepted : AllByRecursion IsAccepted replies
  pub spans : spans_in replies ≡ spans_of (objects_made changes)
  pub held : HaveSameSpans (held_spans state) (heap_spans heap.memory)

-- IsTranslated holds if the events have changes that lead from a heap that held nothing to this one, and
-- every run of a machine that takes their operations from the state `opened` places each object alike.
pub record IsTranslated (settings : Settings) (events : List Event) (heap : Heap) (opened : State) : Type 0 where
  pub changes : List Change
  pub of_events : AreChangesOf (empty_heap settings) events changes heap
  pub are : Changes (empty_heap settings) changes heap
  pub places :
      (replies : List Reply) (state : State)
      → Run opened (operations_of settings.policy no_numbers changes) replies state
      → PlacesAlike changes heap replies state

-- ---- Scripts.

-- HasScript holds if the output is the script of the first of the events, which lead from a heap that held nothing to
-- this one. Each of them has changes that lead from the heap before it to the heap after it, and the output is the
-- lines of the operations of all these changes, in order, with objects numbered from 1. If lines are still taken, no
-- event is left. A machine can make each object of the changes, of which there are no more than it has slots for.
pub record HasScript (settings : Settings) (events : List Event) (progress : Progress) (output : List ℕ) (heap : Heap) : Type 0 where
  pub taken : List Event
  pub left : List Event
  pub in_order : events ≡ taken ++ left
  pub all : progress ≡ Running → left ≡ []
  pub changes : List Change
  pub of_events : AreChangesOf (empty_heap settings) taken changes heap
  pub are : Changes (empty_heap settings) changes heap
  pub plannable : AllByRecursion (CanBePlanned settings.align) (objects_made changes)
  pub few : length (objects_made changes) ≤ most_objects
  pub output_is : output ≡ operation_lines (operations_of settings.policy no_numbers changes)

-- IsReadAs holds if the lines of a text are read as these operations, and no byte follows the last line.
abbrev pub IsReadAs : (text : List ℕ) → List Op → Type 0
IsReadAs text ops = (map operation_of (lines_of text) ≡ map Ok ops) × (rest_of text ≡ [])

-- IsFollowed holds if a text is the script of the first of the events: its lines are read as the operations of their
-- changes, a machine in the state `opened` can take these, and every run of it places each object alike.
pub record IsFollowed (settings : Settings) (events : List Event) (progress : Progress) (text : List ℕ) (heap : Heap) (opened : State) : Type 0 where
  pub script : HasScript settings events progress text heap
  pub reads : IsReadAs text (operations_of settings.policy no_numbers script.changes)
  pub runs : (replies : List Reply) × (state : State) × Run opened (operations_of settings.policy no_numbers script.changes) replies state
  pub places :
      (replies : List Reply) (state : State)
      → Run opened (operations_of settings.policy no_numbers script.changes) replies state
      → PlacesAlike script.changes heap replies state
