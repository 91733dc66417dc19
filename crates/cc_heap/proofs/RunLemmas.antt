-- Runs with one event more.
use Rattle.std.proofs.Common.{ℕ, ◌+◌, ◌<◌, List, [], ◌∷◌, ◌++◌, length, take, get_or, refl, subst}
use Rattle.std.proofs.lemmas.List.{take_more}
use Rattle.cc_heap.specs.declared.event.Event.{Event}
use Rattle.cc_heap.specs.declared.outcome.Outcome.{Outcome}
use Rattle.cc_heap.specs.Heap.{Heap}
use Rattle.cc_heap.specs.Events.{IsEvent}
use Rattle.cc_heap.specs.Run.{Runs}

runs_push : (old mid new : Heap) (events : List Event) (event : Event) (outcome : Outcome) → Runs old events mid
    → IsEvent mid event outcome new → Runs old (events ++ event ∷ []) new
runs_push old mid new [] event outcome same one =
    (outcome, new, subst (λ (h : Heap). IsEvent h event outcome new) same one, refl)
runs_push old mid new (first ∷ events) event outcome (answer, next, is, rest) one =
    (answer, next, is, runs_push next mid new events event outcome rest one)

pub runs_more : (old mid new : Heap) (events : List Event) (i : ℕ) (d : Event) (outcome : Outcome) → i < length events
    → Runs old (take i events) mid → IsEvent mid (get_or events i d) outcome new → Runs old (take (i + 1) events) new
runs_more old mid new events i d outcome within so_far one =
    rw (take_more events i d within) (runs_push old mid new (take i events) (get_or events i d) outcome so_far one)
