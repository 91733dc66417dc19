-- The effect of each command on its devices: the program's own theorem.
use Rattle.std.specs.Borrow.{Bor}
use Rattle.std.specs.Prelude.{ℕ, ◌≡◌, false, IsTrue, Bool, [], List, ⊤, None, Option, Result, Ok, Err, Some, IsSome}
use Rattle.std.specs.Option.{option_map}
use Rattle.std.specs.Result.{result_ok}
use Rattle.clap.specs.Words.{Text}
use Rattle.cc_word.specs.declared.refusal.Refusal.{Refusal}
use Rattle.cc_word.specs.declared.refusal.Refusal.TheVariants.{Syntax}
use Rattle.cc_bounds.specs.declared.align.Align.{Align}
use Rattle.cc_io.specs.CommandOutput.{WritesRefusal}
use Rattle.cc_io.specs.declared.summary.IoError.{IoError}
use Rattle.cc_io.specs.declared.summary.Summary.{Summary}
use Rattle.cc_machine.specs.State.{initial_state}
use Rattle.cc_syntax.specs.Planning.{plan_opening, pool_of}
use Rattle.cc_values.specs.declared.op.Op.{Op}
use Rattle.cli.specs.declared.input.Content.{Content}
use Rattle.cli.specs.declared.input.Content.TheVariants as content
use Rattle.cli.specs.declared.input.InputName.{InputName}
use Rattle.cli.specs.declared.invocation.Invocation.{Invocation}
use Rattle.cli.specs.declared.invocation.ReplayValues.{ReplayValues}
use Rattle.cli.specs.declared.invocation.Invocation.TheVariants.{Annotate, Ask, Decode, DecodeCore, Map, Plan, Replay, RoundList, Run}
use Rattle.cli.specs.Devices.{Console, FromInput, Traffic}
use Rattle.cli.specs.Input.{AreUnasked, file_input}
use Rattle.cli_words.specs.DecodeOptions.{options_of, part_of, search_of}
use Rattle.cli_words.specs.Questions.{has_hint}
use Rattle.cli_words.specs.Tasks.{AnnotatesWords, AnswersQuestion, ListsCoreFile, ListsInput, RoundsLengths}
use Rattle.cli_program.specs.Report.{report_of}
use Rattle.cli_program.specs.Runs.{DrawsRun, ReportsRun, StarvesRun}
use Rattle.cli_program.specs.declared.report.Report.{Report}
use Rattle.cli_program.specs.declared.terminals.Terminals.{Terminals}

-- An input that is requested, its content, and the file of its tags, if there is one.
pub record Asked : Type 0 where
  pub input : InputName
  pub content : Content
  pub tags : Option (Bor Text)

-- IsUnasked holds if the requests were neither this input, after the file of its tags, if there is one, nor that file alone. It
-- holds if there is no input.
abbrev pub IsUnasked : Option Asked → (requested : List (InputName × Content) → Bool) → Type 0
IsUnasked (Some asked) requested = AreUnasked asked.tags asked.input asked.content requested
IsUnasked None requested = ⊤

-- The effect of a command on its devices:
--
-- - the input that it reads, if it reads one
-- - the bytes that it writes and its summary, up to a failure
-- - what holds if memory runs out
-- - whether it can write to standard error
pub record Effect : Type 1 where
  pub input : Option Asked
  pub Does : Console → Result Summary IoError → Type 0
  pub Starves : Console → Type 0
  pub Reports : Type 0

-- WritesNothing holds if nothing was written to the output.
abbrev pub WritesNothing : Console → Type 0
WritesNothing console = console.output_now.taken ≡ console.output.taken

-- The effect of a command that reads this input.
abbrev pub reads : InputName → Content → (Does : Traffic → Result Summary IoError → Type 0) (Starves : Console → Type 0) (Reports : Type 0) → Effect
reads input content Does Starves Reports = record {
  input = Some (record { input = input; content = content; tags = None });
  Does = λ console. FromInput input console Does;
  Starves = Starves;
  Reports = Reports;
}

-- The effect of a command whose texts are refused: that refusal is its output. It reads no input, and does not run out of memory.
abbrev pub refuses : Refusal → Effect
refuses refusal = record {
  input = None;
  Does = λ console. WritesRefusal console.output console.output_now refusal;
  Starves = λ console. ⊥;
  Reports = ⊥;
}

-- The effect of a command whose texts may be refused.
abbrev pub with_values : {Values : Type 0} → Result Values Refusal → (Values → Effect) → Effect
with_values (Ok values) effect = effect values
with_values (Err refusal) effect = refuses refusal

-- The command `replay` of a program: whether its values are accepted, and its effect.
pub record ReplayCommand : Type 1 where
  pub accepts : ReplayValues → Bool
  pub effect : ReplayValues → Option (Bor Text) → Effect

-- The command `replay` of a program without it: no values are accepted.
abbrev pub no_replay : ReplayCommand
no_replay = record { accepts = λ values. false; effect = λ values file. refuses Syntax }

-- The run of a script: the maximum number of slots, the operations of the opening, and the input that has the script.
pub record Script : Type 0 where
  pub limit : ℕ
  pub opening : List Op
  pub input : InputName

-- The effect of a command that runs a script. `pool` is the length of the pool that the opening requests, if any.
abbrev pub script_run : Report → (pool : Option ℕ) → Script → Effect
script_run report pool script =
    reads script.input content.Script (ReportsRun report script.opening pool (initial_state script.limit))
    (StarvesRun report script.opening (initial_state script.limit) script.input) ⊤

-- The script of a machine with this pool.
abbrev pub pool_script : (limit : ℕ) → Align → InputName → (numbers : ℕ × ℕ) → Script
pool_script limit align input numbers = record { limit = limit; opening = plan_opening numbers.0 numbers.1 align; input = input }

-- The effect of each command, in a program with this `replay`.
abbrev pub effect_of : ReplayCommand → Terminals → Invocation → Effect
effect_of replay terminals (Ask question) = record {
  input = None;
  Does = λ console. AnswersQuestion question terminals.errors console.output console.output_now console.errors console.errors_now;
  Starves = λ console. ⊥;
  Reports = IsTrue (has_hint terminals.errors question);
}
effect_of replay terminals (Run limit stats file) = script_run (report_of stats terminals) None (record { limit = limit; opening = []; input = file_input file })
effect_of replay terminals (Plan limit pool align stats file) =
    with_values (pool_of pool.base.now pool.length.now)
    (λ numbers. script_run (report_of stats terminals) (Some numbers.1) (pool_script limit align (file_input file) numbers))
effect_of replay terminals (Map limit pool align svg file) =
    with_values (pool_of pool.base.now pool.length.now)
    (λ numbers. reads (file_input file) content.Pool (DrawsRun svg (plan_opening numbers.0 numbers.1 align) (initial_state limit)) WritesNothing ⊥)
effect_of replay terminals (Replay values file) = replay.effect values file
effect_of replay terminals (Decode input format values file) = record {
  input = Some (record { input = file_input file; content = content.Words; tags = values.tags });
  Does = ListsInput values.tags (file_input file) (part_of values) (options_of input format values);
  Starves = λ console. IsSome values.tags × WritesNothing console;
  Reports = IsTrue terminals.errors;
}
effect_of replay terminals (DecodeCore format search file) = record {
  input = Some (record { input = file_input file; content = content.Words; tags = None });
  Does = ListsCoreFile (file_input file) format (search_of false search);
  Starves = WritesNothing;
  Reports = ⊥;
}
effect_of replay terminals (Annotate file) = reads (file_input file) content.Words AnnotatesWords (λ console. ⊥) ⊥
effect_of replay terminals (RoundList base file) =
    reads (file_input (Some file)) content.Words (RoundsLengths base terminals.errors) (λ console. ⊥) (IsTrue terminals.errors)

-- The script of `run`, and of `plan` if BASE and LENGTH are an address and a length; other commands have none here.
abbrev pub script_of : Invocation → Option Script
script_of (Run limit stats file) = Some (record { limit = limit; opening = []; input = file_input file })
script_of (Plan limit pool align stats file) = option_map (pool_script limit align (file_input file)) (result_ok (pool_of pool.base.now pool.length.now))
script_of _ = None
