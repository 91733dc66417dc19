-- The bytes and the end of the program for a command line that is accepted.
use Rattle.std.specs.Prelude.{ℕ, ◌≡◌, ◌⊎◌, ◌↔◌, true, false, List, [], ◌∷◌, Bool, Option, Some, Ok, Err, Result, IfSome, OnErr, OnOk}
use Rattle.clap.specs.Words.{Row, Text}
use Rattle.cc_io.specs.Devices.{InputState, OutputState}
use Rattle.cc_io.specs.declared.summary.Summary.{Summary}
use Rattle.cc_machine.specs.State.{initial_state}
use Rattle.cli.specs.Devices.{Console, OnDevices}
use Rattle.cli_program.specs.Execution.{Asked, Effect, IsUnasked, ReplayCommand, Script, effect_of, script_of}
use Rattle.cli.specs.Invocation.{IsInvocation}
use Rattle.cli.specs.Input.{OpensFile}
use Rattle.cli.specs.Outcome.{ending_of}
use Rattle.cli.specs.declared.input.Content.{Content}
use Rattle.cli.specs.declared.input.Content.TheVariants as content
use Rattle.cli.specs.declared.input.InputName.{InputName}
use Rattle.cli_program.specs.Runs.{MeetsFrom}
use Rattle.cli.specs.declared.invocation.Invocation.{Invocation}
use Rattle.cli.specs.declared.outcome.Ending.{Ending}
use Rattle.cli.specs.declared.outcome.Ending.TheVariants.{Answered}
use Rattle.cli.specs.declared.fault.Fault.{Fault}
use Rattle.cli.specs.declared.fault.Fault.TheVariants as fault
use Rattle.cli_program.specs.declared.terminals.Terminals.{Terminals}

-- The devices after the program: whether an input was not opened, a read failed, a write failed, and an allocation failed; whether the
-- output is flushed; and which inputs were requested, the last one first.
pub record Failures : Type 0 where
  pub open_failed : Bool
  pub read_failed : Bool
  pub write_failed : Bool
  pub memory_failed : Bool
  pub is_flushed : Bool
  pub requested : List (InputName × Content) → Bool

-- The failures of these devices.
abbrev pub failures_of : (open_failed : Bool) → InputState → OutputState → (memory_failed : Bool) → (requested : List (InputName × Content) → Bool) → Failures
failures_of open_failed source output memory_failed requested = record {
  open_failed = open_failed;
  read_failed = source.has_failed;
  write_failed = output.has_failed;
  memory_failed = memory_failed;
  is_flushed = output.is_flushed;
  requested = requested;
}

-- TellsFailures holds if the result is an error of a device if and only if that device failed.
pub record TellsFailures (failures : Failures) (result : Result Summary Fault) : Type 0 where
  pub opens : (result ≡ Err fault.Open) ↔ (failures.open_failed ≡ true)
  pub reads : (result ≡ Err fault.Read) ↔ (failures.read_failed ≡ true)
  pub writes : (result ≡ Err fault.Write) ↔ (failures.write_failed ≡ true)
  pub allocates : (result ≡ Err fault.Memory) ↔ (failures.memory_failed ≡ true)

-- ReadsAsked holds if an opening or a read failed only if the requests were this input alone, or, with a file of tags, that file alone
-- or that file and then this input. If there is no input, neither failed.
abbrev pub ReadsAsked : Option Asked → Failures → Type 0
ReadsAsked asked failures = IsUnasked asked failures.requested → (failures.open_failed ≡ false) × (failures.read_failed ≡ false)

-- EndsEffect holds if a command with this effect was executed on devices in these states before and after it, and its result ends
-- the program. The result is an error of a device if and only if that device failed. It also says what was written after a failed
-- opening or allocation, and that an opening or a read failed only if the effect's input, or the file of its tags, was requested, and no other.
pub record EndsEffect (effect : Effect) (console : Console) (failures : Failures) (ending : Ending) : Type 0 where
  pub result : Result Summary Fault
  pub executes : OnDevices (effect.Does console) result
  pub fails : TellsFailures failures result
  pub opens : result ≡ Err fault.Open → IfSome effect.input (λ asked. OpensFile asked.tags asked.input)
  pub untouched : result ≡ Err fault.Open → console.output_now.taken ≡ console.output.taken
  pub asks : ReadsAsked effect.input failures
  pub starves : result ≡ Err fault.Memory → effect.Starves console
  pub flushed : OnOk result (failures.is_flushed ≡ true)
  pub unreported : OnErr result (console.errors_now.taken ≡ console.errors.taken)
  pub silent : ¬ effect.Reports → console.errors_now.taken ≡ console.errors.taken
  pub ends : ending ≡ ending_of result

-- ExecutesCommand holds if `EndsEffect` does for the effect of the command that clap found, in a program with this `replay`.
pub record ExecutesCommand (replay : ReplayCommand) (found : Option (Text × List Row)) (terminals : Terminals) (console : Console) (failures : Failures) (ending : Ending) : Type 0 where
  pub invocation : Invocation
  pub is_invocation : IsInvocation found invocation
  pub executed : EndsEffect (effect_of replay terminals invocation) console failures ending

-- ---- `run` and `plan`

-- AnswersScript holds if the result is an error of a device if and only if that device failed, and is the end of the program. After a
-- summary or a failed read or write, the main theorem holds of a run on a new machine that read these bytes and wrote after the bytes
-- `taken`. After a failed opening nothing was written, and after a failed allocation nothing was, or the whole output. An opening or a
-- read failed only if the script's input was requested, once, and no other.
pub record AnswersScript (script : Script) (bytes taken : List ℕ) (left taken_now : Option (List ℕ)) (failures : Failures) (ending : Ending) : Type 0 where
  pub result : Result Summary Fault
  pub main : OnDevices (MeetsFrom script.opening (initial_state script.limit) (Some bytes) left (Some taken) taken_now) result
  pub untouched : result ≡ Err fault.Open → taken_now ≡ Some taken
  pub starved : result ≡ Err fault.Memory
      → (taken_now ≡ Some taken)
      ⊎ ((summary : Summary) × MeetsFrom script.opening (initial_state script.limit) (Some bytes) left (Some taken) taken_now (Ok summary))
  pub flushed : OnOk result (failures.is_flushed ≡ true)
  pub fails : TellsFailures failures result
  pub asks : failures.requested ((script.input, content.Script) ∷ []) ≡ false → (failures.open_failed ≡ false) × (failures.read_failed ≡ false)
  pub ends : ending ≡ ending_of result

-- RunsToEnd holds if the main theorem does of a run on a new machine that read these bytes to their end, and succeeded. So the whole
-- output was written after the bytes `taken`, and each state between two commands is safe. The program ends by the summary: with 0, or
-- with 1 if a reply is an error.
pub record RunsToEnd (script : Script) (bytes taken : List ℕ) (taken_now : Option (List ℕ)) (ending : Ending) : Type 0 where
  pub summary : Summary
  pub main : MeetsFrom script.opening (initial_state script.limit) (Some bytes) (Some []) (Some taken) taken_now (Ok summary)
  pub ends : ending ≡ Answered summary

-- No device failed.
pub record NoneFailed (failures : Failures) : Type 0 where
  pub opened : failures.open_failed ≡ false
  pub read : failures.read_failed ≡ false
  pub written : failures.write_failed ≡ false
  pub allocated : failures.memory_failed ≡ false

-- AnswersEveryScript holds if `AnswersScript` does for `run` and `plan`, whatever bytes their input has, and the sink took before.
abbrev pub AnswersEveryScript : Invocation → Console → Failures → Ending → Type 0
AnswersEveryScript invocation console failures ending =
    (script : Script) (bytes taken : List ℕ) → script_of invocation ≡ Some script → console.input script.input ≡ Some bytes
    → console.output.taken ≡ Some taken → AnswersScript script bytes taken console.source_now.unread console.output_now.taken failures ending
