-- A trace of three events, and its script.
use Rattle.std.specs.Prelude.{ℕ, false, List, [], ◌∷◌, codes, None}
use Rattle.cc_bounds.specs.Span.{span_from}
use Rattle.cc_bounds.specs.declared.align.Align.TheVariants.{One}
use Rattle.cc_replay.specs.declared.formats.TraceFormat.TheVariants.{Own}
use Rattle.cc_replay.specs.declared.reading.Reading.{Reading}
use Rattle.cc_heap.specs.declared.policy.Policy.TheVariants.{Trace}
use Rattle.cc_heap.specs.declared.reallocation.Reallocation.TheVariants.{Move}
use Rattle.cc_heap.specs.declared.settings.Settings.{Settings}
use Rattle.cc_laws.specs.WorkedScript.{text_of}

-- A pool of 64 KiB from 0x10000, which is swept when the trace requests it.
abbrev pub worked_settings : Settings
worked_settings = record {
  limit = 4096;
  pool = span_from 0x10000 65536;
  align = One;
  policy = Trace;
  least_quarantine = 0;
  realloc = Move;
}

-- The own format, without a series.
abbrev pub worked_reading : Reading
worked_reading = record { format = Own; is_strict = false; each = None }

-- An object of 16 bytes is made, freed and swept.
abbrev pub worked_trace : List ℕ
worked_trace = text_of (codes "a 1 16 1" ∷ codes "f 1" ∷ codes "s" ∷ [])

-- The script of the trace.
abbrev pub worked_trace_script : List ℕ
worked_trace_script = text_of (codes "alloc 16" ∷ codes "free 1" ∷ codes "sweep" ∷ [])
