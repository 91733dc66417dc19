-- The first bytes of a line, on which its entry depends in each format.
use Rattle.std.proofs.Common.{◌≡◌, ℕ, List, take, Option, Result, ap}
use Rattle.cc_word.specs.declared.refusal.Refusal.{Refusal}
use Rattle.cc_replay.specs.declared.report.LineReport.{LineReport}
use Rattle.cc_replay.proofs.StartLemmas.{heaptrack_start, ltrace_start, mtrace_start}
use Rattle.cc_heap.specs.declared.event.Event.{Event}
use Rattle.cc_replay.specs.declared.formats.TraceFormat.{TraceFormat}
use Rattle.cc_replay.specs.declared.formats.TraceFormat.TheVariants.{Own, Mtrace, Heaptrack, Ltrace}
use Rattle.cc_replay.specs.Formats.{entry_from, entry_in, entry_with}
use Rattle.cc_replay.proofs.TraceLemmas.{first_bytes}

pub entry_start : (format : TraceFormat) (pending : Option ℕ) (line : List ℕ) → entry_in format pending (take 129 line) ≡ entry_in format pending line
entry_start Own pending line =
    ap (λ (event : Result (Option Event) Refusal). entry_with pending event) (first_bytes line)
entry_start Mtrace pending line = ap (λ (found : Result LineReport Refusal). entry_from pending found) (mtrace_start line)
entry_start Heaptrack pending line = ap (λ (found : Result LineReport Refusal). entry_from pending found) (heaptrack_start line)
entry_start Ltrace pending line = ap (λ (found : Result LineReport Refusal). entry_from pending found) (ltrace_start line)
