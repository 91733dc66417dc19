use Rattle.std.proofs.Common.{ℕ, List, Option, subst, sym}
use Rattle.std.specs.Prelude.{IfOk, IsTrue, ◌↔◌}
use Rattle.cc_io.specs.CommandOutput.{IsTypedWord}
use Rattle.cc_io.specs.declared.format.Format.{Format}
use Rattle.cc_word.specs.WordText.{IsWordText}
use Rattle.cli.specs.declared.question.Question.TheVariants.{Show}
use Rattle.cli_words.specs.Questions.{IsUnanswerable}
use Rattle.cli_words.proofs.questions.show_typed.Goals as goal

pub returns-in-Some-clause-any_error : goal.returns-in-Some-clause-any_error
returns-in-Some-clause-any_error g c =
    subst (λ (format : Option Format). IfOk c.show_row.result (λ summary. IsTrue summary.any_error ↔ IsUnanswerable (Show c.args.word format))) (sym c.in-Some.is)
    (subst (λ (text : List ℕ). IfOk c.show_row.result (λ summary. IsTrue summary.any_error ↔ (¬ IsTypedWord text))) c.as_bytes.ensures.value c.show_row.ensures.any_error)

pub returns-in-None-clause-any_error : goal.returns-in-None-clause-any_error
returns-in-None-clause-any_error g c =
    subst (λ (format : Option Format). IfOk c.show_word.result (λ summary. IsTrue summary.any_error ↔ IsUnanswerable (Show c.args.word format))) (sym c.in-None.is)
    (subst (λ (text : List ℕ). IfOk c.show_word.result (λ summary. IsTrue summary.any_error ↔ (¬ IsWordText text))) c.as_bytes-in-None.ensures.value c.show_word.ensures.any_error)
