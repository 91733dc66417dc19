-- The effect of a command whose texts may be refused, from what its function promises.
use Rattle.std.proofs.Common.{◌≡◌, Bool, List, Result, Ok, Err, subst, sym}
use Rattle.std.specs.Prelude.{IfSome, IsOk, MatchResult}
use Rattle.std.proofs.lemmas.Bool.{false≢true}
use Rattle.cc_io.specs.CommandOutput.{WritesRefusal}
use Rattle.cc_io.specs.declared.summary.Summary.{Summary}
use Rattle.cc_word.specs.declared.refusal.Refusal.{Refusal}
use Rattle.cli.specs.declared.input.Content.{Content}
use Rattle.cli.specs.declared.input.InputName.{InputName}
use Rattle.cli.specs.declared.invocation.Invocation.{Invocation}
use Rattle.cli.specs.declared.fault.Fault.{Fault}
use Rattle.cli.specs.Devices.{Console, OnDevices}
use Rattle.cli.specs.Input.{OpensFile}
use Rattle.cli_program.specs.declared.terminals.Terminals.{Terminals}
use Rattle.cli_program.specs.Execution.{Effect, IsUnasked, ReplayCommand, effect_of, with_values}

-- A claim on the effect of a command, from one on that of an equal one.
pub of_equal : (P : Effect → Type 0) (replay : ReplayCommand) (terminals : Terminals) (one other : Invocation) → one ≡ other → P (effect_of replay terminals other)
    → P (effect_of replay terminals one)
of_equal P replay terminals one other same holds = subst (λ (invocation : Invocation). P (effect_of replay terminals invocation)) (sym same) holds

pub does : {Values : Type 0} (found : Result Values Refusal) (effect : Values → Effect) (console : Console) (result : Result Summary Fault)
    → OnDevices (λ io. MatchResult found (λ values. (effect values).Does console io) (λ refusal. WritesRefusal console.output console.output_now refusal io)) result
    → OnDevices ((with_values found effect).Does console) result
does (Ok values) effect console result holds = holds
does (Err refusal) effect console result holds = holds

pub starves : {Values : Type 0} (found : Result Values Refusal) (effect : Values → Effect) (console : Console)
    → MatchResult found (λ values. (effect values).Starves console) (λ refusal. ⊥) → (with_values found effect).Starves console
starves (Ok values) effect console holds = holds
starves (Err refusal) effect console holds = holds

pub starves_if : {Values : Type 0} (found : Result Values Refusal) (effect : Values → Effect) (console : Console)
    → IsOk found → ((values : Values) → (effect values).Starves console) → (with_values found effect).Starves console
starves_if (Ok values) effect console is_ok holds = holds values
starves_if (Err refusal) effect console is_ok holds = absurd (false≢true is_ok)

pub opens : {Values : Type 0} (found : Result Values Refusal) (effect : Values → Effect)
    → ((values : Values) → IfSome (effect values).input (λ asked. OpensFile asked.tags asked.input)) → IfSome (with_values found effect).input (λ asked. OpensFile asked.tags asked.input)
opens (Ok values) effect holds = holds values
opens (Err refusal) effect holds = tt

pub asks : {Values : Type 0} (found : Result Values Refusal) (effect : Values → Effect) (requested : List (InputName × Content) → Bool) (Same : Type 0)
    → (¬ IsOk found → Same) → ((values : Values) → IsUnasked (effect values).input requested → Same) → IsUnasked (with_values found effect).input requested → Same
asks (Ok values) effect requested Same unused asked is = asked values is
asks (Err refusal) effect requested Same unused asked is = unused (λ ok. false≢true ok)

pub silent : {Values : Type 0} (found : Result Values Refusal) (effect : Values → Effect) (Same : Type 0)
    → (¬ IsOk found → Same) → ((values : Values) → ¬ (effect values).Reports → Same) → ¬ (with_values found effect).Reports → Same
silent (Ok values) effect Same refused same unreported = same values unreported
silent (Err refusal) effect Same refused same unreported = refused (λ ok. false≢true ok)
