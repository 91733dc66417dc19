-- What clap does not check of the texts of `replay`: that each is of its form, and that they go together.
use Rattle.std.specs.Prelude.{◌≡◌, ◌⊎◌, ◌∷◌, Bool, List, Option, Some, [], codes, false, true}
use Rattle.clap.specs.Words.{App, Kinds, Row, Text, subcommand_of}
use Rattle.clap.specs.declared.error.kind.ErrorKind.TheVariants.{ValueValidation}
use Rattle.cli.specs.Invocation.{IsInvocation, IsProgram, mistakes_of}
use Rattle.cli.specs.declared.invocation.Invocation.{Invocation}
use Rattle.cli.specs.declared.invocation.Invocation.TheVariants.{Replay}
use Rattle.cli_program.specs.Execution.{ReplayCommand}

-- Whether the values of the command are accepted, in a program with this `replay`.
abbrev pub has_good_texts : ReplayCommand → Invocation → Bool
has_good_texts replay (Replay values file) = replay.accepts values
has_good_texts replay _ = true

-- FindsTexts holds if clap found a command whose texts are accepted, or are refused, as `good` says.
abbrev pub FindsTexts : ReplayCommand → (good : Bool) → Option (Text × List Row) → Type 0
FindsTexts replay good found = (invocation : Invocation) × IsInvocation found invocation × (has_good_texts replay invocation ≡ good)

-- FindsReplay holds if clap found the command `replay`.
abbrev pub FindsReplay : Option (Text × List Row) → Type 0
FindsReplay found = (rows : List Row) × (found ≡ Some (codes "replay", rows))

-- RefusesTexts holds if clap accepts the arguments, and finds a command whose texts are refused.
pub record RefusesTexts (replay : ReplayCommand) (words : List Text) : Type 0 where
  pub taken : (app : App) × IsProgram app × (mistakes_of app words ≡ [])
  pub refused : (app : App) × IsProgram app × FindsTexts replay false (subcommand_of app words)

-- EndsByArguments holds if the arguments end so by their kinds of error: clap's, or that of a value if clap has none and the texts are
-- refused.
abbrev pub EndsByArguments : ReplayCommand → List Text → (EndsBy : Kinds → Type 0) → Type 0
EndsByArguments replay words EndsBy =
    ((app : App) × IsProgram app × EndsBy (mistakes_of app words)) ⊎ (RefusesTexts replay words × EndsBy (ValueValidation ∷ []))
