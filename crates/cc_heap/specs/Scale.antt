-- The scales of a chart, 6,400 units wide and 3,200 high, and the steps between the labels of its axes.
use Rattle.std.specs.Prelude.{ℕ, ◌+◌, ◌-◌, ◌*◌, ◌/◌, ◌^◌, max, min, nat_lt, decimal, length, if◌then◌else◌}
use Rattle.std.specs.Int.Count.{count_leading_zeros}
use Rattle.cc_heap.specs.declared.levels.Levels.{Levels}

-- The scales of a chart: the bytes at the upper end, the number of events, or 1 if there are none, and the
-- number of events in a column.
pub record Scale : Type 0 where
  pub top : ℕ
  pub events : ℕ
  pub width : ℕ

-- ---- The vertical axis.

-- The bytes that the vertical axis has to reach: the larger of the held ones and of `high`. No pool has more
-- than 2^64.
abbrev pub reach_of : Levels → ℕ
reach_of most = min (max most.held most.high) (2 ^ 64)

-- The exponent of the step between two labels: the smallest power of two of which eight reach the bytes.
abbrev pub step_power : (reach : ℕ) → ℕ
step_power reach = 64 - count_leading_zeros 64 ((reach - 1) / 8)

-- The number of steps: as few as reach the bytes, and at least 1. For at most 2^64 bytes it is at most 8.
abbrev pub step_count : (reach : ℕ) → ℕ
step_count reach = min ((reach - 1) / 2 ^ step_power reach + 1) 8

-- The bytes at the upper end.
abbrev pub top_of : (reach : ℕ) → ℕ
top_of reach = step_count reach * 2 ^ step_power reach

-- The units from the upper end down to some bytes.
abbrev pub down_to : Scale → (bytes : ℕ) → ℕ
down_to scale bytes = 3200 - min bytes scale.top * 3200 / scale.top

-- ---- The horizontal axis.

-- The units from the left end to an event.
abbrev pub right_to : Scale → (event : ℕ) → ℕ
right_to scale event = min event scale.events * 6400 / scale.events

-- The power of ten of the first digit of a number of events.
abbrev pub decade : (events : ℕ) → ℕ
decade events = 10 ^ min (length (decimal events) - 1) 30

-- The events from one label to the next: 1, 2 or 5 times a power of ten.
abbrev pub event_step : (events : ℕ) → ℕ
event_step events =
    max 1
    (if nat_lt events (2 * decade events) then decade events / 5
    else if nat_lt events (5 * decade events) then decade events / 2
    else decade events)

-- The scales for bytes to reach and a number of events, with `width` of them in a column.
abbrev pub scale_of : (reach events width : ℕ) → Scale
scale_of reach events width = record { top = top_of reach; events = max events 1; width = width }
