-- The effect of a list of events on a heap, the states that the heap passes, and its totals as numbers of
-- all these states.
use Rattle.std.specs.Prelude.{ℕ, ◌≡◌, ◌⊎◌, ◌+◌, ◌-◌, max, List, [], ◌∷◌, ◌++◌, Option, Some, None, sum_by}
use Rattle.cc_bounds.specs.declared.span.Span.{Span}
use Rattle.cc_bounds.specs.Span.{length_of}
use Rattle.cc_heap.specs.declared.event.Event.{Event}
use Rattle.cc_heap.specs.declared.object.Object.{Object}
use Rattle.cc_heap.specs.declared.outcome.Outcome.{Outcome}
use Rattle.cc_heap.specs.declared.totals.Totals.{Totals}
use Rattle.cc_heap.specs.declared.usage.Usage.{Usage}
use Rattle.cc_heap.specs.Totals.{capped_count, capped_sum, inexact_of}
use Rattle.cc_heap.specs.Memory.{Memory, memory_object, usage_of}
use Rattle.cc_heap.specs.Heap.{FreesHeapObject, Heap, KeepsHeapObject, MakesHeapObject, empty_heap, swept_heap}
use Rattle.cc_heap.specs.Events.{IsEvent}

-- Runs holds if the events turn the heap `old` into `new`, each from the heap that the one before left.
abbrev pub Runs : Heap → List Event → Heap → Type 0
Runs old [] new = new ≡ old
Runs old (event ∷ events) new = (outcome : Outcome) × (next : Heap) × IsEvent old event outcome next × Runs next events new

-- ---- The states that a heap passes.

-- A state that a heap passes: what it holds, the object whose making led to it, or none, and the number
-- of bytes whose sweep led to it, or none.
pub record Moment : Type 0 where
  pub memory : Memory
  pub made : Option Object
  pub swept : Option ℕ

-- IsMaking holds if an object is made, and the moment has it.
pub record IsMaking (old : Heap) (moment : Moment) (new : Heap) : Type 0 where
  pub id : ℕ
  pub requested : ℕ
  pub size : ℕ
  pub makes : MakesHeapObject old id requested size new
  pub is : moment ≡ record {
    memory = new.memory;
    made = Some (memory_object old.settings.align requested makes.start size);
    swept = None;
  }

-- IsFreeing holds if an object is freed.
pub record IsFreeing (old : Heap) (moment : Moment) (new : Heap) : Type 0 where
  pub id : ℕ
  pub object : Object
  pub frees : FreesHeapObject old id object new
  pub is : moment ≡ record { memory = new.memory; made = None; swept = None }

-- IsSweeping holds if the quarantine is swept, and the moment has the number of its bytes.
pub record IsSweeping (old : Heap) (moment : Moment) (new : Heap) : Type 0 where
  pub sweeps : new ≡ swept_heap old
  pub is : moment ≡ record { memory = new.memory; made = None; swept = Some (usage_of old.memory).quarantine }

-- IsKeeping holds if an object keeps its bytes and has another size.
pub record IsKeeping (old : Heap) (moment : Moment) (new : Heap) : Type 0 where
  pub from : ℕ
  pub to : ℕ
  pub before : Object
  pub requested : ℕ
  pub size : ℕ
  pub keeps : KeepsHeapObject old from to before requested size new
  pub is : moment ≡ record { memory = new.memory; made = None; swept = None }

-- PassesEvent holds if the heap `old` becomes `new` by one change after the other, and these are the states
-- after each.
abbrev pub PassesEvent : Heap → List Moment → Heap → Type 0
PassesEvent old [] new = new ≡ old
PassesEvent old (moment ∷ moments) new =
    (next : Heap)
    × (IsMaking old moment next ⊎ (IsFreeing old moment next ⊎ (IsSweeping old moment next ⊎ IsKeeping old moment next)))
    × PassesEvent next moments new

-- ArePassedBy holds if these are the states that the heap passes by the events: the states of each event, in
-- order, lead from the heap before it to the heap after it.
abbrev pub ArePassedBy : Heap → List Event → List Moment → Heap → Type 0
ArePassedBy old [] moments new = (moments ≡ []) × (new ≡ old)
ArePassedBy old (event ∷ events) moments new =
    (mine : List Moment) × (rest : List Moment) × (outcome : Outcome) × (next : Heap)
    × (moments ≡ mine ++ rest) × IsEvent old event outcome next × PassesEvent old mine next
    × ArePassedBy next events rest new

-- ---- The numbers of all states.

-- The largest value over a list, and 0 over none.
unfoldable pub greatest : (Moment → ℕ) → List Moment → ℕ
greatest value [] = 0
greatest value (moment ∷ moments) = max (value moment) (greatest value moments)

-- The value of an option, or 0 for none.
abbrev pub or_zero : {A : Type 0} → (A → ℕ) → Option A → ℕ
or_zero value (Some x) = value x
or_zero value None = 0

-- A number of the object whose making led to the state, and otherwise 0.
abbrev pub of_made : (Object → ℕ) → Moment → ℕ
of_made value moment = or_zero value moment.made

-- A number of the bytes whose sweep led to the state, and otherwise 0.
abbrev pub of_swept : (ℕ → ℕ) → Moment → ℕ
of_swept value moment = or_zero value moment.swept

-- The usage in a state.
abbrev pub usage_in : Moment → Usage
usage_in moment = usage_of moment.memory

-- The totals of the states, from those before: counts and sums over the states in which an object was
-- made, or after a sweep, and the largest values over all of them.
abbrev pub totals_after : Span → Totals → List Moment → Totals
totals_after pool totals moments = record {
  made = capped_count (totals.made + sum_by (of_made (λ object. 1)) moments);
  inexact = capped_count (totals.inexact + sum_by (of_made inexact_of) moments);
  made_asked = capped_sum (totals.made_asked + sum_by (of_made (λ object. object.size)) moments);
  made_padded = capped_sum (totals.made_padded + sum_by (of_made (λ object. length_of object.span)) moments);
  sweeps = capped_count (totals.sweeps + sum_by (of_swept (λ bytes. 1)) moments);
  swept = capped_sum (totals.swept + sum_by (of_swept (λ bytes. bytes)) moments);
  swept_over = capped_sum (totals.swept_over
      + sum_by (λ moment. of_swept (λ bytes. (usage_in moment).live + bytes) moment) moments);
  peak_objects = max totals.peak_objects (greatest (λ moment. (usage_in moment).objects) moments);
  peak_asked = max totals.peak_asked (greatest (λ moment. (usage_in moment).asked) moments);
  peak_live = max totals.peak_live (greatest (λ moment. (usage_in moment).live) moments);
  peak_quarantine = max totals.peak_quarantine (greatest (λ moment. (usage_in moment).quarantine) moments);
  peak_held = max totals.peak_held
      (greatest (λ moment. (usage_in moment).live + (usage_in moment).quarantine) moments);
  high = max totals.high (greatest (of_made (λ object. object.span.top - pool.base)) moments);
}

-- HasTotals holds if the events lead to the heap from one that held nothing, and its totals are the numbers
-- of all states that they pass.
pub record HasTotals (events : List Event) (heap : Heap) : Type 0 where
  pub moments : List Moment
  pub passed : ArePassedBy (empty_heap heap.settings) events moments heap
  pub totals : heap.totals ≡ totals_after heap.settings.pool (empty_heap heap.settings).totals moments
