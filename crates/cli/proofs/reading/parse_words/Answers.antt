use Rattle.std.proofs.Common.{◌≡◌, ◌∙◌, ◌∷◌, ap, codes, inl, refl, sym, subst, true, [], List, Option}
use Rattle.std.specs.Result.{IfErr}
use Rattle.std.proofs.lemmas.Result.{IfOk-weaker, err_from_is_err_and}
use Rattle.clap.specs.Faults.{fault_of, is_simple_and_free}
use Rattle.clap.specs.Walk.{Row, Text, texts}
use Rattle.clap.specs.Words.{App, FailsBy, HasKind, is_simple, kind_of, subcommand_of, subcommand_rows_of, takes}
use Rattle.clap.specs.declared.error.Error.{Error}
use Rattle.clap.specs.declared.error.kind.ErrorKind.TheVariants.{OutOfMemory}
use Rattle.cli.specs.Invocation.{HasItsTexts, IsProgram, choice_mistake_in, mistakes_of, format_names, is_taken, kinds_in, order_names, program, summary_names}
use Rattle.cli.specs.declared.table.Choices.{Choices}
use Rattle.cli.proofs.ChoiceLemmas.{choice_fails, choice_refuses, clap_fails, taken_parts}
use Rattle.cli.proofs.InvocationLemmas.{found}
use Rattle.cli.proofs.reading.parse_words.Goals as goal

-- The program of these choices.
abbrev program_of : Choices → App
program_of choices = program choices.aligns choices.formats choices.orders choices.summaries

is_program_of : (choices : Choices) → texts choices.aligns.now ≡ codes "1" ∷ codes "16" ∷ [] → texts choices.formats.now ≡ format_names
    → texts choices.orders.now ≡ order_names → texts choices.summaries.now ≡ summary_names → IsProgram (program_of choices)
is_program_of choices are are_formats are_orders are_summaries = record {
  aligns = choices.aligns;
  are = are;
  formats = choices.formats;
  are_formats = are_formats;
  orders = choices.orders;
  are_orders = are_orders;
  summaries = choices.summaries;
  are_summaries = are_summaries;
  is = refl;
}

pub returns-in-Ok-clause-read : goal.returns-in-Ok-clause-read
returns-in-Ok-clause-read c =
    let words : List Text = texts c.args.words.now in
    let is = c.in_ok-command.ensures in
    let app : App = program_of c.choices.result in
    let is_program = is_program_of c.choices.result c.choices.ensures.aligns c.choices.ensures.formats c.choices.ensures.orders c.choices.ensures.summaries in
    let faultless : fault_of app words ≡ [] = ap (λ (a : App). fault_of a words) (sym is) ∙ c.in-Ok.ensures.kinds (ap is_simple_and_free is) in
    let matches : subcommand_rows_of c.in-Ok.matches ≡ subcommand_of app words =
    (c.in-Ok.ensures.matches (ap is_simple is)).1 ∙ ap (λ (a : App). subcommand_of a words) is in
    IfOk-weaker c.chosen.result _ _ (λ chosen told.
    let same : subcommand_rows_of chosen ≡ subcommand_of app words = ap subcommand_rows_of told.0 ∙ matches in (
      app,
      is_program,
      same,
      subst HasItsTexts (sym same) (found c.choices.result.aligns c.choices.ensures.aligns c.choices.result.formats c.choices.ensures.formats c.choices.result.orders c.choices.ensures.orders
          c.choices.result.summaries c.choices.ensures.summaries words faultless (sym (ap choice_mistake_in matches) ∙ told.1)),
    ))
    c.chosen.ensures.read

pub returns-in-Ok-clause-refused : goal.returns-in-Ok-clause-refused
returns-in-Ok-clause-refused c =
    let words : List Text = texts c.args.words.now in
    let is = c.in_ok-command.ensures in
    let app : App = program_of c.choices.result in
    let is_program = is_program_of c.choices.result c.choices.ensures.aligns c.choices.ensures.formats c.choices.ensures.orders c.choices.ensures.summaries in
    let matches : subcommand_rows_of c.in-Ok.matches ≡ subcommand_of app words =
    (c.in-Ok.ensures.matches (ap is_simple is)).1 ∙ ap (λ (a : App). subcommand_of a words) is in
    choice_refuses (choice_mistake_in (subcommand_rows_of c.in-Ok.matches)) c.chosen.result
    (λ error. (app : App) × IsProgram app × (is_taken app words ≡ true → kind_of error ≡ OutOfMemory)) c.chosen.ensures.kinds
    (λ error told. (app, is_program, λ taken. told (ap choice_mistake_in matches ∙ (taken_parts app words taken).1)))

pub returns-in-Err-clause-refused : goal.returns-in-Err-clause-refused
returns-in-Err-clause-refused c =
    let words : List Text = texts c.args.words.now in
    let app : App = program_of c.choices.result in
    let is_program = is_program_of c.choices.result c.choices.ensures.aligns c.choices.ensures.formats c.choices.ensures.orders c.choices.ensures.summaries in
    (app, is_program, λ taken. c.in-Err.ensures.passes (ap (λ (a : App). takes a words) c.in_ok-command.ensures ∙ (taken_parts app words taken).0))

pub returns-in_err-command-clause-refused : goal.returns-in_err-command-clause-refused
returns-in_err-command-clause-refused c =
    let words : List Text = texts c.args.words.now in
    let Q : Error → Type 0 = λ error. (app : App) × IsProgram app × (is_taken app words ≡ true → kind_of error ≡ OutOfMemory) in
    let app : App = program_of c.choices.result in
    let is_program = is_program_of c.choices.result c.choices.ensures.aligns c.choices.ensures.formats c.choices.ensures.orders c.choices.ensures.summaries in
    let told = err_from_is_err_and c.from_residual.result c.from_residual.ensures.1 in
    let holds : Q told.0 = (app, is_program, λ taken. told.2) in
    subst (λ r. IfErr r Q) (sym told.1) holds

pub returns-in-Ok-clause-kinds : goal.returns-in-Ok-clause-kinds
returns-in-Ok-clause-kinds c =
    let words : List Text = texts c.args.words.now in
    let is = c.in_ok-command.ensures in
    let app : App = program_of c.choices.result in
    let is_program = is_program_of c.choices.result c.choices.ensures.aligns c.choices.ensures.formats c.choices.ensures.orders c.choices.ensures.summaries in
    let faultless : fault_of app words ≡ [] = ap (λ (a : App). fault_of a words) (sym is) ∙ c.in-Ok.ensures.kinds (ap is_simple_and_free is) in
    let matches : subcommand_rows_of c.in-Ok.matches ≡ subcommand_of app words =
    (c.in-Ok.ensures.matches (ap is_simple is)).1 ∙ ap (λ (a : App). subcommand_of a words) is in
    let told = subst (λ (met : Option (Text × List Row)). FailsBy (kinds_in (choice_mistake_in met)) c.chosen.result) matches c.chosen.ensures.kinds in
    (app, is_program, choice_fails app words c.chosen.result faultless told)

pub returns-in-Err-clause-kinds : goal.returns-in-Err-clause-kinds
returns-in-Err-clause-kinds c =
    let words : List Text = texts c.args.words.now in
    let is = c.in_ok-command.ensures in
    let app : App = program_of c.choices.result in
    let is_program = is_program_of c.choices.result c.choices.ensures.aligns c.choices.ensures.formats c.choices.ensures.orders c.choices.ensures.summaries in
    (app, is_program, clap_fails app words c.in-Err.error (subst (λ (a : App). HasKind (fault_of a words) c.in-Err.error) is (c.in-Err.ensures.kinds (ap is_simple_and_free is))))

pub returns-in_err-command-clause-kinds : goal.returns-in_err-command-clause-kinds
returns-in_err-command-clause-kinds c =
    let words : List Text = texts c.args.words.now in
    let app : App = program_of c.choices.result in
    let is_program = is_program_of c.choices.result c.choices.ensures.aligns c.choices.ensures.formats c.choices.ensures.orders c.choices.ensures.summaries in
    let told = err_from_is_err_and c.from_residual.result c.from_residual.ensures.1 in
    (app, is_program, subst (λ r. FailsBy (mistakes_of app words) r) (sym told.1) (inl told.2))
