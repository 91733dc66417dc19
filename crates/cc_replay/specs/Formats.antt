-- The event of a line of a trace in each format.
use Rattle.std.specs.Prelude.{ℕ, Bool, true, false, List, Option, Some, None, is_some, if◌then◌else◌, Result, Ok, Err}
use Rattle.cc_word.specs.declared.refusal.Refusal.{Refusal}
use Rattle.cc_word.specs.declared.refusal.Refusal.TheVariants.{Syntax}
use Rattle.cc_replay.specs.Heaptrack.{heaptrack_in}
use Rattle.cc_replay.specs.Ltrace.{ltrace_in}
use Rattle.cc_replay.specs.Mtrace.{mtrace_in}
use Rattle.cc_replay.specs.declared.report.LineReport.{LineReport}
use Rattle.cc_replay.specs.declared.report.LineReport.TheVariants.{Failure, Allocation, Clearing, Reallocation, From, To}
use Rattle.cc_replay.specs.declared.report.LineReport.TheVariants as report
use Rattle.cc_heap.specs.declared.event.Event.{Event}
use Rattle.cc_heap.specs.declared.event.Event.TheVariants as event
use Rattle.cc_replay.specs.declared.formats.Entry.{Entry}
use Rattle.cc_replay.specs.declared.formats.TraceFormat.{TraceFormat}
use Rattle.cc_replay.specs.declared.formats.TraceFormat.TheVariants.{Own, Mtrace, Heaptrack, Ltrace}
use Rattle.cc_replay.specs.Trace.{entry_of}

-- The event of a report that is one alone. A pointer is an id.
abbrev pub event_of : LineReport → Option Event
event_of (Allocation pointer size) = Some (event.Allocate pointer size 1)
event_of (Clearing pointer size) = Some (event.Clear pointer size)
event_of (Reallocation old new size) = Some (event.Reallocate old new size)
event_of (report.Free pointer) = Some (event.Free pointer)
event_of (report.Clock now) = Some (event.Clock now)
event_of _ = None

-- The entry of a line that reports no failure: its event, or none, or its refusal.
abbrev pub entry_with : (pending : Option ℕ) → Result (Option Event) Refusal → Entry
entry_with pending event = record { event = event; pending = pending; is_failure = false }

-- The entry of the second half of a reallocation: its event if a first half is pending, or otherwise a
-- refusal.
abbrev pub joined_entry : (pending : Option ℕ) → (new size : ℕ) → Entry
joined_entry (Some old) new size = entry_with None (Ok (Some (event.Reallocate old new size)))
joined_entry None new size = entry_with None (Err Syntax)

-- The entry of a report, if the first half of a reallocation is pending, or if none is. A further first
-- half is refused, and is pending from then on.
abbrev pub reported_entry : (pending : Option ℕ) → LineReport → Entry
reported_entry pending Failure = record { event = Ok None; pending = pending; is_failure = true }
reported_entry pending (From pointer) = entry_with (Some pointer) (if is_some pending then Err Syntax else Ok None)
reported_entry pending (To pointer size) = joined_entry pending pointer size
reported_entry pending report = entry_with pending (Ok (event_of report))

-- The entry of a report, or the refusal of a line.
abbrev pub entry_from : (pending : Option ℕ) → Result LineReport Refusal → Entry
entry_from pending (Ok report) = reported_entry pending report
entry_from pending (Err refusal) = entry_with pending (Err refusal)

-- The entry of a line in a format.
abbrev pub entry_in : TraceFormat → (pending : Option ℕ) → (line : List ℕ) → Entry
entry_in Own pending line = entry_with pending (entry_of line)
entry_in Mtrace pending line = entry_from pending (mtrace_in line)
entry_in Heaptrack pending line = entry_from pending (heaptrack_in line)
entry_in Ltrace pending line = entry_from pending (ltrace_in line)

-- Whether the objects of a format are named by pointers.
abbrev pub has_pointers : TraceFormat → Bool
has_pointers Own = false
has_pointers Mtrace = true
has_pointers Heaptrack = true
has_pointers Ltrace = true
