-- How a trace is read: when no further line is taken, and which events have a sample.
use Rattle.std.specs.Prelude.{ℕ, Bool, true, false, not, ◌&&◌, ◌||◌, ◌==◌, ◌%◌, if◌then◌else◌, Option, Some, None, is_some}
use Rattle.cc_replay.specs.declared.reading.Progress.{Progress}
use Rattle.cc_replay.specs.declared.reading.Progress.TheVariants.{OutOfMemory, Running, Stopped}
use Rattle.cc_replay.specs.declared.reading.Reading.{Reading}
use Rattle.cc_replay.specs.declared.reading.SampleReason.{SampleReason}
use Rattle.cc_replay.specs.declared.reading.SampleReason.TheVariants.{Regular, Swept}

-- Whether no further line is taken.
abbrev pub is_over : Progress → Bool
is_over Running = false
is_over _ = true

-- Whether memory ran out.
abbrev pub ran_out : Progress → Bool
ran_out OutOfMemory = true
ran_out _ = false

-- Whether further lines are taken after a line: not if it is refused, and reading is strict.
abbrev pub progress_after : Reading → (is_refused : Bool) → Progress
progress_after reading is_refused = if reading.is_strict && is_refused then Stopped else Running

-- Whether a number is a multiple of one that is not 0.
abbrev pub is_multiple : (number : ℕ) → Option ℕ → Bool
is_multiple number None = false
is_multiple number (Some each) = not (each == 0) && number % each == 0

-- Whether an event has a sample for its number, a multiple of the given one, if there is a series.
abbrev pub is_regular : Reading → (event : ℕ) → Bool
is_regular reading event = is_multiple event reading.each

-- Whether an event has a sample: for its number, or since it leads to a sweep, if there is a series.
abbrev pub is_due : Reading → (event sweeps sweeps_now : ℕ) → Bool
is_due reading event sweeps sweeps_now =
    is_regular reading event || is_some reading.each && not (sweeps_now == sweeps)

-- The reason of the sample of an event that has one.
abbrev pub reason_of : Reading → (event : ℕ) → SampleReason
reason_of reading event = if is_regular reading event then Regular else Swept
