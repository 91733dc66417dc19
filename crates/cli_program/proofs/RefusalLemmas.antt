-- The kinds of error of the program's arguments, with those of the texts of `replay`.
use Rattle.std.proofs.Common.{◌≡◌, ◌⊎◌, Bool, true, false, List, [], ◌∷◌, Option, inl, inr, refl}
use Rattle.std.specs.Prelude.{◌≢◌}
use Rattle.clap.specs.Words.{App, HasKind, Kinds, Row, Text, kind_of, subcommand_of}
use Rattle.clap.specs.declared.error.Error.{Error}
use Rattle.clap.specs.declared.error.kind.ErrorKind.{ErrorKind}
use Rattle.clap.specs.declared.error.kind.ErrorKind.TheVariants.{OutOfMemory, ValueValidation}
use Rattle.cli.specs.Invocation.{IsInvocation, IsProgram, mistakes_of, kinds_in, value_mistake}
use Rattle.cli.specs.declared.invocation.Invocation.{Invocation}
use Rattle.cli.specs.declared.invocation.Invocation.TheVariants.{Annotate, Ask, Decode, DecodeCore, Map, Plan, Replay, RoundList, Run}
use Rattle.cli_program.specs.Execution.{ReplayCommand}
use Rattle.cli_program.specs.Refusals.{EndsByArguments, FindsReplay, FindsTexts, has_good_texts}

-- Texts without an error are accepted.
pub good_without_error : (good : Bool) → kinds_in (value_mistake good) ≡ [] → good ≡ true
good_without_error true e = refl
good_without_error false e = cc e

-- An error of texts is for memory, or they are refused.
pub refused_or_memory : (good : Bool) (e : Error) → HasKind (kinds_in (value_mistake good)) e
    → (kind_of e ≡ OutOfMemory) ⊎ ((good ≡ false) × HasKind (ValueValidation ∷ []) e)
refused_or_memory good e (inl memory) = inl memory
refused_or_memory true e (inr among) = absurd among
refused_or_memory false e (inr among) = inr (refl, inr among)

-- Either of two gives either of two others.
pub either_gives : {A B C D : Type 0} → (A → B) → (C → D) → A ⊎ C → B ⊎ D
either_gives f h (inl a) = inl (f a)
either_gives f h (inr c) = inr (h c)

-- Only `replay` has texts that are refused.
pub only_replay : (replay : ReplayCommand) (found : Option (Text × List Row)) → FindsTexts replay false found → FindsReplay found
only_replay replay found told = go told.0 told.1 told.2
  where
    go : (invocation : Invocation) → IsInvocation found invocation → has_good_texts replay invocation ≡ false → FindsReplay found
    go (Replay values file) is refused = (is.0, is.1)
    go (Ask question) is refused = cc refused
    go (Run limit stats file) is refused = cc refused
    go (Plan limit pool align stats file) is refused = cc refused
    go (Map limit pool align svg file) is refused = cc refused
    go (Decode input format values file) is refused = cc refused
    go (DecodeCore format search file) is refused = cc refused
    go (Annotate file) is refused = cc refused
    go (RoundList base file) is refused = cc refused

-- The end by one kind of end is that by another.
pub ends_by_other : (replay : ReplayCommand) (words : List Text) (P Q : Kinds → Type 0) → ((kinds : Kinds) → P kinds → Q kinds) → EndsByArguments replay words P → EndsByArguments replay words Q
ends_by_other replay words P Q f (inl told) = inl (told.0, told.1, f (mistakes_of told.0 words) told.2)
ends_by_other replay words P Q f (inr told) = inr (told.0, f (ValueValidation ∷ []) told.1)

-- The error of the texts of a command that clap found is one that the arguments can give.
pub texts_fail : (replay : ReplayCommand) (words : List Text) (invocation : Invocation) (e : Error) → (app : App) × IsProgram app × (mistakes_of app words ≡ [])
    → (app : App) × IsProgram app × IsInvocation (subcommand_of app words) invocation → HasKind (kinds_in (value_mistake (has_good_texts replay invocation))) e
    → EndsByArguments replay words (λ kinds. HasKind kinds e)
texts_fail replay words invocation e taken found told = go (refused_or_memory (has_good_texts replay invocation) e told)
  where
    go : (kind_of e ≡ OutOfMemory) ⊎ ((has_good_texts replay invocation ≡ false) × HasKind (ValueValidation ∷ []) e) → EndsByArguments replay words (λ kinds. HasKind kinds e)
    go (inl memory) = inl (taken.0, taken.1, inl memory)
    go (inr refused) = inr (record { taken = taken; refused = (found.0, found.1, (invocation, found.2, refused.0)) }, refused.1)

-- The error of texts is for memory, or clap found a command whose texts are refused.
pub texts_found : (replay : ReplayCommand) (app : App) (words : List Text) (invocation : Invocation) (e : Error) → IsInvocation (subcommand_of app words) invocation
    → HasKind (kinds_in (value_mistake (has_good_texts replay invocation))) e → (kind_of e ≡ OutOfMemory) ⊎ FindsTexts replay false (subcommand_of app words)
texts_found replay app words invocation e found told = go (refused_or_memory (has_good_texts replay invocation) e told)
  where
    go : (kind_of e ≡ OutOfMemory) ⊎ ((has_good_texts replay invocation ≡ false) × HasKind (ValueValidation ∷ []) e)
        → (kind_of e ≡ OutOfMemory) ⊎ FindsTexts replay false (subcommand_of app words)
    go (inl memory) = inl memory
    go (inr refused) = inr (invocation, found, refused.0)

-- An error that is not for memory comes of arguments that clap does not accept, or of refused texts.
pub not_for_memory : {Found : Type 0} (taken : Bool) (kind : ErrorKind) → (taken ≡ true → (kind ≡ OutOfMemory) ⊎ Found) → kind ≢ OutOfMemory → (taken ≡ false) ⊎ Found
not_for_memory false kind told not = inl refl
not_for_memory {Found} true kind told not = go (told refl)
  where
    go : (kind ≡ OutOfMemory) ⊎ Found → (true ≡ false) ⊎ Found
    go (inl memory) = absurd (not memory)
    go (inr found) = inr found
