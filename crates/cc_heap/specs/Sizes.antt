-- The numbers of the objects that were made, by the powers of two of their sizes.
use Rattle.std.specs.Prelude.{ℕ, Bool, ◌+◌, ◌*◌, ◌^◌, ◌&&◌, nat_eq, nat_le, nat_lt, List, [], ◌∷◌, replicate, Option, Some, None, if◌then◌else◌, sum_by}
use Rattle.cc_bounds.specs.declared.align.Align.{Align}
use Rattle.cc_bounds.specs.Span.{length_of}
use Rattle.cc_placer.specs.Align.{padded_size_for}
use Rattle.cc_heap.specs.declared.event.Event.{Event}
use Rattle.cc_heap.specs.declared.event.Event.TheVariants.{Allocate, Clear, Reallocate}
use Rattle.cc_heap.specs.declared.making.Making.{Making}
use Rattle.cc_heap.specs.declared.making.Making.TheVariants.{Made}
use Rattle.cc_heap.specs.declared.sizes.SizeTotals.{SizeTotals}
use Rattle.cc_heap.specs.Events.{size_of}
use Rattle.cc_heap.specs.declared.object.Object.{Object}
use Rattle.cc_heap.specs.Run.{Moment, of_made}
use Rattle.cc_heap.specs.Totals.{capped_count, capped_sum, inexact_of}

-- Whether a size is at least the power of two, and below the next.
abbrev pub is_of_power : (power size : ℕ) → Bool
is_of_power power size = nat_le (2 ^ power) size && nat_lt size (2 * 2 ^ power)

-- The numbers with one more object of this size, which takes the padded size.
abbrev pub with_sized_object : (size padded : ℕ) → SizeTotals → SizeTotals
with_sized_object size padded totals = record {
  made = capped_count (totals.made + 1);
  inexact = capped_count (totals.inexact + (if nat_eq padded size then 0 else 1));
  asked = capped_sum (totals.asked + size);
  padded = capped_sum (totals.padded + padded);
}

-- The rows of the powers of two from 2^`power`, with one more object: the row of its power has it too.
abbrev pub with_size : (power size padded : ℕ) → List SizeTotals → List SizeTotals
with_size power size padded [] = []
with_size power size padded (row ∷ rows) =
    (if is_of_power power size then with_sized_object size padded row else row) ∷ with_size (power + 1) size padded rows

-- The numbers of no objects.
abbrev pub no_objects : SizeTotals
no_objects = record { made = 0; inexact = 0; asked = 0; padded = 0 }

-- The rows of no objects, one for each power of two below 2^64.
abbrev pub no_sizes : List SizeTotals
no_sizes = replicate 64 no_objects

-- The size of the object that an event requests, or none.
abbrev pub asked_size : Event → Option ℕ
asked_size (Allocate id size align) = Some (size_of size)
asked_size (Clear id size) = Some (size_of size)
asked_size (Reallocate old new size) = Some (size_of size)
asked_size _ = None

-- The size of the object that an event makes, or none.
abbrev pub made_size : Event → Option Making → Option ℕ
made_size event (Some Made) = asked_size event
made_size event _ = None

-- The rows with an object of this size, if there is one.
abbrev pub with_made_size : Align → Option ℕ → List SizeTotals → List SizeTotals
with_made_size align (Some size) rows = with_size 0 size (padded_size_for align size) rows
with_made_size align None rows = rows

-- ---- The numbers of a power of two over all states.

-- A number of the object whose making led to a state, if its size is of the power of two, and otherwise 0.
abbrev pub of_size : (power : ℕ) → (Object → ℕ) → Moment → ℕ
of_size power value = of_made (λ object. if is_of_power power object.size then value object else 0)

-- The numbers of a power of two after the states, from those before: counts and sums over the states in
-- which an object of such a size was made.
abbrev pub sizes_after : (power : ℕ) → SizeTotals → List Moment → SizeTotals
sizes_after power totals moments = record {
  made = capped_count (totals.made + sum_by (of_size power (λ object. 1)) moments);
  inexact = capped_count (totals.inexact + sum_by (of_size power inexact_of) moments);
  asked = capped_sum (totals.asked + sum_by (of_size power (λ object. object.size)) moments);
  padded = capped_sum (totals.padded + sum_by (of_size power (λ object. length_of object.span)) moments);
}
