-- The output of a command for a trace, from the lines that it took.
use Rattle.std.proofs.Common.{◌≡◌, ◌∙◌, ℕ, Bool, false, List, Result, Ok, Err, sym, inl}
use Rattle.cc_io.specs.declared.summary.IoError.{IoError}
use Rattle.cc_io.specs.declared.summary.IoError.TheVariants.{Read, Write}
use Rattle.cc_io.specs.declared.summary.Summary.{Summary}
use Rattle.cli.specs.Devices.{Traffic}
use Rattle.cli_replay.specs.Outputs.{Samples, StopsTaking, Taking, WritesEnd}

-- A trace that was taken to its end.
pub writes_end : {S : Type 0} (Takes : Result Summary IoError → S → Type 0) (ran_out : S → Bool) (text_of : S → List ℕ) (Writes : List ℕ → Type 0) (summary : Summary)
    (new : S) (has_run_out : Bool) → Takes (Ok summary) new → has_run_out ≡ ran_out new → has_run_out ≡ false → Writes (text_of new)
    → WritesEnd Takes ran_out text_of Writes summary
writes_end {S} Takes ran_out text_of Writes summary new has_run_out takes tells goes written = record {
  new = new;
  takes = takes;
  has_memory = sym tells ∙ goes;
  written = written;
}

-- A series that an error of a device stopped.
pub stops_sampling : {S : Type 0} (Takes : Taking S) (ran_out : S → Bool) (text_of : S → List ℕ) (traffic : Traffic) (error : IoError) → StopsTaking Takes traffic error
    → Samples Takes ran_out text_of traffic (Err error)
stops_sampling Takes ran_out text_of traffic Read stops = stops
stops_sampling Takes ran_out text_of traffic Write stops = inl stops
