-- The tables of a replay: the summary, and the rows of a series.
use Rattle.std.specs.Prelude.{ℕ, Bool, ◌+◌, ◌-◌, List, [], ◌∷◌, ◌++◌, codes, if◌then◌else◌}
use Rattle.cc_replay.specs.declared.counts.Counts.{Counts}
use Rattle.cc_replay.specs.declared.reading.SampleReason.{SampleReason}
use Rattle.cc_replay.specs.declared.table.Value.TheVariants.{Number, Percent, Reason}
use Rattle.cc_replay.specs.declared.summary.Figures.{Figures}
use Rattle.cc_heap.specs.declared.totals.Totals.{Totals}
use Rattle.cc_heap.specs.declared.usage.Usage.{Usage}
use Rattle.cc_replay.specs.Rows.{Row, parts_of}
use Rattle.cc_heap.specs.Totals.{capped_sum}

-- A row of a number.
abbrev pub number_row : (name : List ℕ) (number : ℕ) → Row
number_row name number = record { name = name; value = Number number }

-- The rows of the lines of a trace, by kind.
abbrev pub line_rows : Counts → List Row
line_rows counts =
    number_row (codes "lines") counts.lines
    ∷ number_row (codes "events") counts.events
    ∷ number_row (codes "allocs") counts.allocs
    ∷ number_row (codes "callocs") counts.callocs
    ∷ number_row (codes "reallocs") counts.reallocs
    ∷ number_row (codes "frees") counts.frees
    ∷ number_row (codes "aligned") counts.aligned
    ∷ number_row (codes "zero") counts.zero
    ∷ []

-- The rows of the lines that are not events, and of the events that are refused: the number of
-- each kind, and the first line of it.
abbrev pub refusal_rows : Counts → List Row
refusal_rows counts =
    number_row (codes "refused.syntax") counts.syntax.times
    ∷ number_row (codes "first.syntax") counts.syntax.first
    ∷ number_row (codes "refused.range") counts.range.times
    ∷ number_row (codes "first.range") counts.range.first
    ∷ number_row (codes "refused.unfinished") counts.unfinished.times
    ∷ number_row (codes "first.unfinished") counts.unfinished.first
    ∷ number_row (codes "refused.unknown") counts.unknown.times
    ∷ number_row (codes "first.unknown") counts.unknown.first
    ∷ number_row (codes "refused.live") counts.live.times
    ∷ number_row (codes "first.live") counts.live.first
    ∷ number_row (codes "refused.noroom") counts.no_room.times
    ∷ number_row (codes "first.noroom") counts.no_room.first
    ∷ number_row (codes "refused.full") counts.full.times
    ∷ number_row (codes "first.full") counts.full.first
    ∷ number_row (codes "refused.lost") counts.lost.times
    ∷ number_row (codes "first.lost") counts.lost.first
    ∷ []

-- The rows of all objects that were made. The padding is a percentage of the requested bytes.
abbrev pub made_rows : Totals → List Row
made_rows totals =
    number_row (codes "made") totals.made
    ∷ number_row (codes "made.asked") totals.made_asked
    ∷ number_row (codes "made.padded") totals.made_padded
    ∷ number_row (codes "inexact") totals.inexact
    ∷ record {
      name = codes "padding.made.percent";
      value = Percent (parts_of (totals.made_padded - totals.made_asked) totals.made_asked);
    }
    ∷ []

-- The rows of the peaks and of the sweeps.
abbrev pub peak_rows : Totals → List Row
peak_rows totals =
    number_row (codes "peak.objects") totals.peak_objects
    ∷ number_row (codes "peak.asked") totals.peak_asked
    ∷ number_row (codes "peak.live") totals.peak_live
    ∷ number_row (codes "peak.quarantine") totals.peak_quarantine
    ∷ number_row (codes "peak.held") totals.peak_held
    ∷ number_row (codes "sweeps") totals.sweeps
    ∷ number_row (codes "swept.bytes") totals.swept
    ∷ number_row (codes "swept.over") totals.swept_over
    ∷ number_row (codes "high") totals.high
    ∷ []

-- The rows of the heap at the end.
abbrev pub end_rows : Usage → List Row
end_rows usage =
    number_row (codes "end.objects") usage.objects
    ∷ number_row (codes "end.asked") usage.asked
    ∷ number_row (codes "end.live") usage.live
    ∷ number_row (codes "end.quarantine") usage.quarantine
    ∷ []

-- The row of the objects that the program could not make, if the format has pointers.
abbrev pub failure_rows : (has_pointers : Bool) → Counts → List Row
failure_rows has_pointers counts = if has_pointers then number_row (codes "failed") counts.failed ∷ [] else []

-- The rows of a summary.
abbrev pub summary_rows : Figures → List Row
summary_rows figures =
    line_rows figures.counts ++ refusal_rows figures.counts ++ made_rows figures.totals ++ peak_rows figures.totals
    ++ end_rows figures.usage ++ failure_rows figures.has_pointers figures.counts

-- The rows of a sample: the state of a heap after an event, which becomes one line of a series, and why there is one.
abbrev pub sample_rows : SampleReason → (time : ℕ) → Figures → List Row
sample_rows reason time figures =
    number_row (codes "line") figures.counts.lines
    ∷ number_row (codes "event") figures.counts.events
    ∷ number_row (codes "time") time
    ∷ number_row (codes "made.asked") figures.totals.made_asked
    ∷ number_row (codes "objects") figures.usage.objects
    ∷ number_row (codes "asked") figures.usage.asked
    ∷ number_row (codes "live") figures.usage.live
    ∷ number_row (codes "quarantine") figures.usage.quarantine
    ∷ number_row (codes "held") (capped_sum (figures.usage.live + figures.usage.quarantine))
    ∷ number_row (codes "peak.quarantine") figures.totals.peak_quarantine
    ∷ number_row (codes "peak.held") figures.totals.peak_held
    ∷ number_row (codes "high") figures.totals.high
    ∷ number_row (codes "sweeps") figures.totals.sweeps
    ∷ record { name = codes "why"; value = Reason reason }
    ∷ []
