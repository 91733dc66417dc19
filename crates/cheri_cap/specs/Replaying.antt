-- The command `replay` of the program.
use Rattle.std.specs.Borrow.{Bor}
use Rattle.std.specs.Prelude.{◌≡◌, Option, Result, is_ok}
use Rattle.clap.specs.Words.{Text}
use Rattle.cc_io.specs.declared.summary.IoError.{IoError}
use Rattle.cc_io.specs.declared.summary.Summary.{Summary}
use Rattle.cli.specs.Devices.{Console}
use Rattle.cli.specs.Input.{file_input, trace_content}
use Rattle.cli.specs.declared.invocation.ReplayValues.{ReplayValues}
use Rattle.cli_program.specs.Execution.{Effect, ReplayCommand, WritesNothing, reads, with_values}
use Rattle.cli_replay.specs.ReplayValues.{replay_in}
use Rattle.cli_replay.specs.Replaying.{IsStreaming, ReplaysTrace}
use Rattle.cli_replay.specs.declared.replay_values.ReplayRequest.{ReplayRequest}

-- The effect of `replay` with the request of its values.
abbrev pub trace_replay : ReplayValues → Option (Bor Text) → ReplayRequest → Effect
trace_replay values file request =
    reads (file_input file) (trace_content values.output) (ReplaysTrace request)
    (λ console. ¬ IsStreaming values.output → WritesNothing console) ⊥

-- The command `replay`: its values are accepted if they give a request.
abbrev pub with_replay : ReplayCommand
with_replay = record {
  accepts = λ values. is_ok (replay_in values);
  effect = λ values file. with_values (replay_in values) (trace_replay values file);
}

-- IsReplay holds if a command accepts exactly the values that `with_replay` does and requests the same input, and if `with_replay` has
-- every effect that it has.
pub record IsReplay (command : ReplayCommand) : Type 0 where
  pub accepts : (values : ReplayValues) → command.accepts values ≡ with_replay.accepts values
  pub input :
      (values : ReplayValues) (file : Option (Bor Text))
      → (command.effect values file).input ≡ (with_replay.effect values file).input
  pub does :
      (values : ReplayValues) (file : Option (Bor Text)) (console : Console) (result : Result Summary IoError)
      → (command.effect values file).Does console result → (with_replay.effect values file).Does console result
  pub starves :
      (values : ReplayValues) (file : Option (Bor Text)) (console : Console)
      → (command.effect values file).Starves console → (with_replay.effect values file).Starves console
  pub reports :
      (values : ReplayValues) (file : Option (Bor Text))
      → (command.effect values file).Reports → (with_replay.effect values file).Reports
