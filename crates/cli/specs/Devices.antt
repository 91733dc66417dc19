-- The inputs, the output and standard error of a command, and its result on them.
use Rattle.std.specs.Prelude.{◌≡◌, ◌↔◌, ⊤, ℕ, Bool, true, List, Option, Some, IfSome, Result, Ok, Err, OnOk}
use Rattle.std.specs.Io.KnownBytes.{Consumes, IsAtEnd}
use Rattle.cc_io.specs.Devices.{InputState, OutputState}
use Rattle.cc_io.specs.declared.summary.IoError.{IoError}
use Rattle.cc_io.specs.declared.summary.IoError.TheVariants.{Read, Write}
use Rattle.cc_io.specs.declared.summary.Summary.{Summary}
use Rattle.cli.specs.declared.fault.Fault.{Fault}
use Rattle.cli.specs.declared.fault.Fault.TheVariants as fault
use Rattle.cli.specs.declared.input.InputName.{InputName}

-- The error of the program if a source or a sink failed.
abbrev pub fault_of : IoError → Fault
fault_of Read = fault.Read
fault_of Write = fault.Write

-- The states of the devices of a run, before and after it: its source, its output, and standard error.
pub record Traffic : Type 0 where
  pub source : InputState
  pub source_now : InputState
  pub output : OutputState
  pub output_now : OutputState
  pub errors : OutputState
  pub errors_now : OutputState

-- The bytes of the inputs, if they are known, and the others as in `Traffic`.
pub record Console : Type 0 where
  pub input : InputName → Option (List ℕ)
  pub source_now : InputState
  pub output : OutputState
  pub output_now : OutputState
  pub errors : OutputState
  pub errors_now : OutputState

-- The console of these inputs and devices.
abbrev pub console_of : (input : InputName → Option (List ℕ)) → (source_now : InputState) → (output output_now errors errors_now : OutputState) → Console
console_of input source_now output output_now errors errors_now =
    record { input = input; source_now = source_now; output = output; output_now = output_now; errors = errors; errors_now = errors_now }

-- GivesAll holds if the source gave these bytes, and has no more.
pub record GivesAll (source source_now : InputState) (bytes : List ℕ) : Type 0 where
  pub given : Consumes source.unread source_now.unread bytes
  pub ended : IsAtEnd source_now.unread

-- The traffic of these devices.
abbrev pub traffic_on : (source source_now : InputState) → (output output_now errors errors_now : OutputState) → Traffic
traffic_on source source_now output output_now errors errors_now =
    record { source = source; source_now = source_now; output = output; output_now = output_now; errors = errors; errors_now = errors_now }

-- The traffic of a run that reads one of the inputs.
abbrev pub traffic_of : Console → (source : InputState) → Traffic
traffic_of console source = traffic_on source console.source_now console.output console.output_now console.errors console.errors_now

-- FromInput holds if the claim holds of a run that reads this input: at first, all bytes of the input are unread, if they are
-- known.
pub record FromInput (input : InputName) (console : Console) (Does : Traffic → Result Summary IoError → Type 0) (result : Result Summary IoError) : Type 0 where
  pub source : InputState
  pub known : IfSome (console.input input) (λ bytes. source.unread ≡ Some bytes)
  pub does : Does (traffic_of console source) result

-- OnDevices holds if the devices gave the result, and the claim holds of it. It holds if memory ran out or the input was not
-- opened.
abbrev pub OnDevices : (Holds : Result Summary IoError → Type 0) → Result Summary Fault → Type 0
OnDevices Holds (Ok summary) = Holds (Ok summary)
OnDevices Holds (Err fault.Read) = Holds (Err Read)
OnDevices Holds (Err fault.Write) = Holds (Err Write)
OnDevices Holds (Err _) = ⊤

-- OnOutput holds if the claim holds of the result for these inputs, source and output, whatever standard error is.
abbrev pub OnOutput : (input : InputName → Option (List ℕ)) (source_now : InputState) (output output_now : OutputState)
    (Holds : Console → Result Summary IoError → Type 0) → Result Summary Fault → Type 0
OnOutput input source_now output output_now Holds result =
    (errors errors_now : OutputState) → OnDevices (Holds (console_of input source_now output output_now errors errors_now)) result

-- IsEnd holds if the result is an error of the inputs, of the source or of the output if and only if that device failed. The output
-- is flushed after a success, and has taken nothing if the input was not opened.
pub record IsEnd (has_refused : Bool) (source_now : InputState) (output output_now : OutputState) (result : Result Summary Fault) : Type 0 where
  pub refused : (result ≡ Err fault.Open) ↔ (has_refused ≡ true)
  pub read : (result ≡ Err fault.Read) ↔ (source_now.has_failed ≡ true)
  pub write : (result ≡ Err fault.Write) ↔ (output_now.has_failed ≡ true)
  pub flushed : OnOk result (output_now.is_flushed ≡ true)
  pub untouched : result ≡ Err fault.Open → output_now.taken ≡ output.taken
