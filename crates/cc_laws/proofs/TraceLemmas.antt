-- The events of a trace, and a machine that takes their operations.
use Rattle.std.proofs.Common.{ℕ, ◌≡◌, ◌+◌, ◌≤◌, List, length, arith}
use Rattle.std.specs.List.{AllByRecursion}
use Rattle.cc_bounds.specs.Span.{span_from}
use Rattle.cc_values.specs.declared.reply.Reply.{Reply}
use Rattle.cc_machine.specs.State.{State, initial_state}
use Rattle.cc_machine.specs.Run.{Run}
use Rattle.cc_syntax.specs.Planning.{plan_opening}
use Rattle.cc_heap.specs.declared.event.Event.{Event}
use Rattle.cc_heap.specs.declared.reallocation.Reallocation.TheVariants.{Move}
use Rattle.cc_heap.specs.declared.settings.Settings.{Settings}
use Rattle.cc_heap.specs.Heap.{Heap, empty_heap}
use Rattle.cc_heap.specs.Run.{Runs}
use Rattle.cc_replay.specs.Changes.{AsksForUnit, objects_made}
use Rattle.cc_laws.specs.Translation.{IsAccepted, IsTranslated}
use Rattle.cc_laws.proofs.EventLemmas.{has_changes}
use Rattle.cc_laws.proofs.PlacedAlikeLemmas.{places_alike}

pub translated : (limit base size : ℕ) (settings : Settings) (events : List Event) (heap : Heap)
    (opening : List Reply) (opened : State)
    → settings.pool ≡ span_from base size
    → Run (initial_state limit) (plan_opening base size settings.align) opening opened
    → AllByRecursion IsAccepted opening
    → settings.realloc ≡ Move
    → AllByRecursion (AsksForUnit settings.align) events → Runs (empty_heap settings) events heap
    → limit ≤ 65536 → heap.totals.made + 3 ≤ limit
    → IsTranslated settings events heap opened
translated limit base size settings events heap opening opened pool_is opens accepted moves aligned runs few fits =
    let has = has_changes settings events heap moves aligned runs in
    let made = has.made in
    let many : length (objects_made has.changes) + 3 ≤ limit = omega (arith, made, few, fits) in
    record {
      changes = has.changes;
      of_events = has.of_events;
      are = has.are;
      places = λ replies state run.
          places_alike limit base size settings has.changes heap opening replies opened state pool_is opens accepted
          has.are has.can many run;
    }
