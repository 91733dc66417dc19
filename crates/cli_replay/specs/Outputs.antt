-- The output of a command for a trace: at its end, or while its lines are taken.
use Rattle.std.specs.Prelude.{◌≡◌, ◌⊎◌, ℕ, Bool, false, List, Option, None, Result, Ok, Err}
use Rattle.std.specs.Io.KnownBytes.{Appends}
use Rattle.cc_io.specs.Devices.{InputState, OutputState, TakesPrefix}
use Rattle.cc_io.specs.declared.summary.IoError.{IoError}
use Rattle.cc_io.specs.declared.summary.IoError.TheVariants.{Read, Write}
use Rattle.cc_io.specs.declared.summary.Summary.{Summary}
use Rattle.cli.specs.Devices.{OnDevices, Traffic, traffic_on}
use Rattle.cli.specs.declared.fault.Fault.{Fault}

-- A claim on the lines that the source gave and a taker took, from a state: the unread bytes of the source and those of the output,
-- before and after, the result, and the state after.
abbrev pub Taking : Type 0 → Type 1
Taking S = (unread left output output_now : Option (List ℕ)) → Result Summary IoError → (new : S) → Type 0

-- WritesEnd holds if the trace was taken without an error, no allocation failed, and of the text of the end was written what `Writes`
-- says.
pub record WritesEnd {S : Type 0} (Takes : Result Summary IoError → S → Type 0) (ran_out : S → Bool) (text_of : S → List ℕ) (Writes : List ℕ → Type 0) (summary : Summary) : Type 0 where
  pub new : S
  pub takes : Takes (Ok summary) new
  pub has_memory : ran_out new ≡ false
  pub written : Writes (text_of new)

-- StopsTaking holds if an error of a device stopped the taker, and what it wrote before was written.
pub record StopsTaking {S : Type 0} (Takes : Taking S) (traffic : Traffic) (error : IoError) : Type 0 where
  pub new : S
  pub takes : Takes traffic.source.unread traffic.source_now.unread traffic.output.taken traffic.output_now.taken (Err error) new

-- SumsUp holds if the trace was taken, and the text of its end was written, up to a failed write. Nothing was written if a read failed.
abbrev pub SumsUp : {S : Type 0} → Taking S → (ran_out : S → Bool) → (text_of : S → List ℕ) → Traffic → Result Summary IoError → Type 0
SumsUp {S} Takes ran_out text_of traffic (Ok summary) =
    WritesEnd (Takes traffic.source.unread traffic.source_now.unread None None) ran_out text_of (Appends traffic.output.taken traffic.output_now.taken)
    summary
SumsUp {S} Takes ran_out text_of traffic (Err Read) = traffic.output_now.taken ≡ traffic.output.taken
SumsUp {S} Takes ran_out text_of traffic (Err Write) =
    (summary : Summary) × WritesEnd (Takes traffic.source.unread traffic.source_now.unread None None) ran_out text_of
    (TakesPrefix traffic.output.taken traffic.output_now.taken) summary

-- Samples holds if what the taker writes while lines are taken was written, and then the text of the end, up to a failure.
abbrev pub Samples : {S : Type 0} → Taking S → (ran_out : S → Bool) → (text_of : S → List ℕ) → Traffic → Result Summary IoError → Type 0
Samples {S} Takes ran_out text_of traffic (Ok summary) =
    (output_then : Option (List ℕ)) × WritesEnd (Takes traffic.source.unread traffic.source_now.unread traffic.output.taken output_then) ran_out text_of
    (Appends output_then traffic.output_now.taken) summary
Samples {S} Takes ran_out text_of traffic (Err Read) = StopsTaking Takes traffic Read
Samples {S} Takes ran_out text_of traffic (Err Write) =
    StopsTaking Takes traffic Write
    ⊎ ((output_then : Option (List ℕ)) × (summary : Summary) × WritesEnd (Takes traffic.source.unread traffic.source_now.unread traffic.output.taken output_then) ran_out text_of
    (TakesPrefix output_then traffic.output_now.taken) summary)

-- Scripts holds if what the taker writes while lines are taken was written, up to a failure, and no allocation failed.
abbrev pub Scripts : {S : Type 0} → Taking S → (ran_out : S → Bool) → Traffic → Result Summary IoError → Type 0
Scripts {S} Takes ran_out traffic (Ok summary) =
    (new : S) × Takes traffic.source.unread traffic.source_now.unread traffic.output.taken traffic.output_now.taken (Ok summary) new
    × (ran_out new ≡ false)
Scripts {S} Takes ran_out traffic (Err error) = StopsTaking Takes traffic error

-- OnStreams holds if the claim holds of the result for this source and this output, whatever standard error is.
abbrev pub OnStreams : (source source_now : InputState) (output output_now : OutputState) (Does : Traffic → Result Summary IoError → Type 0)
    → Result Summary Fault → Type 0
OnStreams source source_now output output_now Does result =
    (errors errors_now : OutputState) → OnDevices (Does (traffic_on source source_now output output_now errors errors_now)) result
