-- The counts of the lines of a trace, with one line more.
use Rattle.std.specs.Prelude.{ℕ, Bool, true, false, ◌+◌, ◌==◌, nat_lt, if◌then◌else◌}
use Rattle.cc_word.specs.declared.refusal.Refusal.{Refusal}
use Rattle.cc_word.specs.declared.refusal.Refusal.TheVariants.{OutOfRange, Unfinished}
use Rattle.cc_replay.specs.declared.counts.Count.{Count}
use Rattle.cc_replay.specs.declared.counts.Counts.{Counts}
use Rattle.cc_heap.specs.declared.event.Event.{Event}
use Rattle.cc_heap.specs.declared.event.Event.TheVariants.{Allocate, Clear, Reallocate, Free, Sweep, Clock}
use Rattle.cc_heap.specs.declared.outcome.Outcome.{Outcome}
use Rattle.cc_heap.specs.Outcomes.{is_full, is_no_room}
use Rattle.cc_heap.specs.Totals.{capped_count}

-- The count with this line, which is the first if there was none.
abbrev pub counted_events : (line : ℕ) → Count → Count
counted_events line count = record {
  times = capped_count (count.times + 1);
  first = if count.times == 0 then line else count.first;
}

-- The count with this line, if it is one of the kind.
abbrev pub counted_if : (is_one : Bool) → (line : ℕ) → Count → Count
counted_if is_one line count = if is_one then counted_events line count else count

-- The counts with one more line.
abbrev pub with_line : Counts → Counts
with_line counts = record counts { lines = capped_count (counts.lines + 1) }

-- 1 if it holds, otherwise 0.
abbrev pub one_if : Bool → ℕ
one_if true = 1
one_if false = 0

-- The counts with one more object that the program could not make, if the last line reports one.
abbrev pub with_failure : (is_failure : Bool) → Counts → Counts
with_failure is_failure counts = record counts { failed = capped_count (counts.failed + one_if is_failure) }

-- The counts with the last line as one that is refused.
abbrev pub with_refusal : Refusal → Counts → Counts
with_refusal OutOfRange counts = record counts { range = counted_events counts.lines counts.range }
with_refusal Unfinished counts = record counts { unfinished = counted_events counts.lines counts.unfinished }
with_refusal _ counts = record counts { syntax = counted_events counts.lines counts.syntax }

-- The counts with one more event of the kind.
abbrev pub with_kind : Event → Counts → Counts
with_kind (Allocate id size align) counts = record counts {
  allocs = capped_count (counts.allocs + 1);
  aligned = capped_count (counts.aligned + one_if (nat_lt 1 align));
  zero = capped_count (counts.zero + one_if (size == 0));
}
with_kind (Clear id size) counts = record counts {
  callocs = capped_count (counts.callocs + 1);
  zero = capped_count (counts.zero + one_if (size == 0));
}
with_kind (Reallocate old new size) counts = record counts {
  reallocs = capped_count (counts.reallocs + 1);
  zero = capped_count (counts.zero + one_if (size == 0));
}
with_kind (Free id) counts = record counts { frees = capped_count (counts.frees + 1) }
with_kind Sweep counts = counts
with_kind (Clock time) counts = counts

-- The counts with the last line as this event.
abbrev pub with_counted_event : Event → Counts → Counts
with_counted_event event counts = with_kind event (record counts { events = capped_count (counts.events + 1) })

-- The counts with what came of the event of the last line.
abbrev pub with_outcome : Outcome → Counts → Counts
with_outcome outcome counts = record counts {
  unknown = counted_if outcome.unknown counts.lines counts.unknown;
  live = counted_if outcome.was_live counts.lines counts.live;
  no_room = counted_if (is_no_room outcome.making) counts.lines counts.no_room;
  full = counted_if (is_full outcome.making) counts.lines counts.full;
  lost = counted_if outcome.lost counts.lines counts.lost;
}
