-- The script of `run` and of `plan`, from the theorem of the program.
use Rattle.std.proofs.Common.{◌≡◌, ◌∙◌, ℕ, List, [], Option, Some, None, Result, Ok, Err, inl, inr, subst}
use Rattle.std.specs.Prelude.{◌⊎◌, IfSome}
use Rattle.std.specs.Option.{option_map}
use Rattle.std.specs.Result.{result_ok}
use Rattle.cc_io.specs.declared.summary.IoError.{IoError}
use Rattle.cc_io.specs.declared.summary.Summary.{Summary}
use Rattle.cc_machine.specs.State.{State, initial_state}
use Rattle.cli.specs.Devices.{Console, OnDevices}
use Rattle.cli.proofs.DeviceLemmas.{on_devices-map}
use Rattle.cli.specs.declared.invocation.Invocation.{Invocation}
use Rattle.cli.specs.declared.invocation.Invocation.TheVariants.{Annotate, Ask, Decode, DecodeCore, Map, Plan, Replay, RoundList, Run}
use Rattle.cli.specs.declared.input.InputName.{InputName}
use Rattle.cli.specs.Input.{file_input}
use Rattle.cc_syntax.specs.Planning.{pool_of}
use Rattle.cc_word.specs.declared.refusal.Refusal.{Refusal}
use Rattle.cc_values.specs.declared.op.Op.{Op}
use Rattle.cc_bounds.specs.declared.align.Align.{Align}
use Rattle.cli.specs.declared.outcome.Ending.{Ending}
use Rattle.cli.specs.declared.fault.Fault.{Fault}
use Rattle.cli_program.specs.Report.{report_of}
use Rattle.cli_program.specs.Runs.{MeetsFrom, StarvesRun}
use Rattle.cli_program.specs.declared.report.Report.{Report}
use Rattle.cli_program.specs.declared.terminals.Terminals.{Terminals}
use Rattle.cli_program.specs.Ending.{AnswersEveryScript, EndsEffect, Failures}
use Rattle.cli_program.specs.Execution.{Effect, ReplayCommand, Script, effect_of, pool_script, script_of, script_run, with_values}

-- ---- any result

-- The main theorem, where the bytes of the input and of the output are known.
met : (opening : List Op) (start : State) (bytes taken : List ℕ) (unread left output output_now : Option (List ℕ)) (io : Result Summary IoError) → unread ≡ Some bytes → output ≡ Some taken
    → MeetsFrom opening start unread left output output_now io → MeetsFrom opening start (Some bytes) left (Some taken) output_now io
met opening start bytes taken unread left output output_now io has had m =
    subst (λ (u : Option (List ℕ)). MeetsFrom opening start u left (Some taken) output_now io) has
    (subst (λ (t : Option (List ℕ)). MeetsFrom opening start unread left t output_now io) had m)

-- The bytes that were read, where those of the input are known.
read_bytes : (bytes : List ℕ) (input unread : Option (List ℕ)) → input ≡ Some bytes → IfSome input (λ b. unread ≡ Some b) → unread ≡ Some bytes
read_bytes bytes input unread has known = subst (λ (it : Option (List ℕ)). IfSome it (λ b. unread ≡ Some b)) has known

-- ---- the effect of the script's command

-- A claim on the effect of `run` or `plan`, on that of its script.
pool_effect : (P : Effect → Type 0) (found : Result (ℕ × ℕ) Refusal) (report : Report) (limit : ℕ) (align : Align) (input : InputName) (script : Script)
    → option_map (pool_script limit align input) (result_ok found) ≡ Some script
    → P (with_values found (λ numbers. script_run report (Some numbers.1) (pool_script limit align input numbers))) → (pool : Option ℕ) × P (script_run report pool script)
pool_effect P (Ok numbers) report limit align input script is holds =
    let made : pool_script limit align input numbers ≡ script = cc is in
    (Some numbers.1, subst (λ (s : Script). P (script_run report (Some numbers.1) s)) made holds)
pool_effect P (Err refusal) report limit align input script is holds = absurd (cc is)

script_effect : (P : Effect → Type 0) (replay : ReplayCommand) (terminals : Terminals) (invocation : Invocation) (script : Script) → script_of invocation ≡ Some script
    → P (effect_of replay terminals invocation) → (report : Report) × (pool : Option ℕ) × P (script_run report pool script)
script_effect P replay terminals (Run limit stats file) script is holds =
    let made : record { limit = limit; opening = []; input = file_input file } ≡ script = cc is in
    (report_of stats terminals, None, subst (λ (s : Script). P (script_run (report_of stats terminals) None s)) made holds)
script_effect P replay terminals (Plan limit pool align stats file) script is holds =
    let found = pool_effect P (pool_of pool.base.now pool.length.now) (report_of stats terminals) limit align (file_input file) script is holds in
    (report_of stats terminals, found.0, found.1)
script_effect P replay terminals (Ask question) script is holds = absurd (cc is)
script_effect P replay terminals (Map limit pool align svg file) script is holds = absurd (cc is)
script_effect P replay terminals (Replay values file) script is holds = absurd (cc is)
script_effect P replay terminals (Decode input format texts file) script is holds = absurd (cc is)
script_effect P replay terminals (DecodeCore format search file) script is holds = absurd (cc is)
script_effect P replay terminals (Annotate file) script is holds = absurd (cc is)
script_effect P replay terminals (RoundList base file) script is holds = absurd (cc is)

-- The main theorem of a run that was reported.
main_of : (script : Script) (bytes taken : List ℕ) (report : Report) (pool : Option ℕ) (console : Console) (result : Result Summary Fault)
    → console.input script.input ≡ Some bytes → console.output.taken ≡ Some taken → OnDevices ((script_run report pool script).Does console) result
    → OnDevices (MeetsFrom script.opening (initial_state script.limit) (Some bytes) console.source_now.unread (Some taken) console.output_now.taken) result
main_of script bytes taken report pool console result has had does =
    on_devices-map ((script_run report pool script).Does console)
    (MeetsFrom script.opening (initial_state script.limit) (Some bytes) console.source_now.unread (Some taken) console.output_now.taken)
    (λ io from. met script.opening (initial_state script.limit) bytes taken from.source.unread console.source_now.unread console.output.taken console.output_now.taken io
    (read_bytes bytes (console.input script.input) from.source.unread has from.known) had (from.does.session.machine.now, from.does.runs.main)) result does

-- ---- memory that ran out

starved : (script : Script) (bytes taken : List ℕ) (console : Console) (report : Report) → console.input script.input ≡ Some bytes → console.output.taken ≡ Some taken
    → StarvesRun report script.opening (initial_state script.limit) script.input console
    → (console.output_now.taken ≡ Some taken)
    ⊎ ((summary : Summary) × MeetsFrom script.opening (initial_state script.limit) (Some bytes) console.source_now.unread (Some taken) console.output_now.taken (Ok summary))
starved script bytes taken console report has had (inl same) = inl (same ∙ had)
starved script bytes taken console report has had (inr all) =
    let whole = all.3 in
    inr (
      whole.0,
      met script.opening (initial_state script.limit) bytes taken all.1.unread console.source_now.unread console.output.taken console.output_now.taken (Ok whole.0)
          (read_bytes bytes (console.input script.input) all.1.unread has all.2) had whole.1,
    )

-- The headline: `run` and `plan`.
pub runs_script : (replay : ReplayCommand) (invocation : Invocation) (terminals : Terminals) (console : Console) (failures : Failures) (ending : Ending)
    → EndsEffect (effect_of replay terminals invocation) console failures ending → AnswersEveryScript invocation console failures ending
runs_script replay invocation terminals console failures ending e script bytes taken is has had =
    let run = script_effect (λ effect. EndsEffect effect console failures ending) replay terminals invocation script is e in
    let ends = run.2 in
    record {
      result = ends.result;
      main = main_of script bytes taken run.0 run.1 console ends.result has had ends.executes;
      untouched = λ refused. ends.untouched refused ∙ had;
      starved = λ ran_out. starved script bytes taken console run.0 has had (ends.starves ran_out);
      flushed = ends.flushed;
      fails = ends.fails;
      asks = ends.asks;
      ends = ends.ends;
    }
