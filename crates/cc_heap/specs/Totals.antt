-- The numbers of all states that a heap has had, with one state more.
use Rattle.std.specs.Prelude.{ℕ, ◌+◌, ◌-◌, ◌^◌, max, min, nat_eq, if◌then◌else◌}
use Rattle.cc_bounds.specs.Span.{length_of}
use Rattle.cc_heap.specs.declared.object.Object.{Object}
use Rattle.cc_heap.specs.declared.totals.Totals.{Totals}
use Rattle.cc_heap.specs.declared.usage.Usage.{Usage}

-- A count, which stays at 2^64 - 1 once it reaches it.
abbrev pub capped_count : ℕ → ℕ
capped_count count = min count (2 ^ 64 - 1)

-- A sum of bytes, which stays at 2^128 - 1 once it reaches it.
abbrev pub capped_sum : ℕ → ℕ
capped_sum bytes = min bytes (2 ^ 128 - 1)

-- 1 for an object that takes more bytes than were requested, otherwise 0.
abbrev pub inexact_of : Object → ℕ
inexact_of object = if nat_eq (length_of object.span) object.size then 0 else 1

-- The totals with one more state, of this usage.
abbrev pub with_usage : Totals → Usage → Totals
with_usage totals usage = record totals {
  peak_objects = max totals.peak_objects usage.objects;
  peak_asked = max totals.peak_asked usage.asked;
  peak_live = max totals.peak_live usage.live;
  peak_quarantine = max totals.peak_quarantine usage.quarantine;
  peak_held = max totals.peak_held (usage.live + usage.quarantine);
}

-- The totals with one more object, which ends this number of bytes above the pool's base, and with the
-- state in which it is made.
abbrev pub with_made : Totals → Object → (end : ℕ) → Usage → Totals
with_made totals object end usage = record (with_usage totals usage) {
  made = capped_count (totals.made + 1);
  inexact = capped_count (totals.inexact + inexact_of object);
  made_asked = capped_sum (totals.made_asked + object.size);
  made_padded = capped_sum (totals.made_padded + length_of object.span);
  high = max totals.high end;
}

-- The totals with one more sweep, of this number of quarantined bytes, and with the state after it.
abbrev pub with_sweep : Totals → (bytes : ℕ) → Usage → Totals
with_sweep totals bytes usage = record (with_usage totals usage) {
  sweeps = capped_count (totals.sweeps + 1);
  swept = capped_sum (totals.swept + bytes);
  swept_over = capped_sum (totals.swept_over + (usage.live + bytes));
}
