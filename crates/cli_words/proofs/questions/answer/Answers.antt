use Rattle.std.proofs.Common.{◌≡◌, ℕ, List, refl, subst, sym}
use Rattle.std.specs.Prelude.{Result, IfOk, IsTrue, ◌↔◌}
use Rattle.std.specs.Io.KnownBytes.{Appends}
use Rattle.cc_io.specs.declared.summary.IoError.{IoError}
use Rattle.cc_io.specs.declared.summary.Summary.{Summary}
use Rattle.cc_io.specs.CommandOutput.{IsTypedWord, WritesAnswer}
use Rattle.cc_explain.specs.Explanation.{IsExplanation}
use Rattle.cc_explain.specs.WindowDrawing.{IsWindowDrawing}
use Rattle.cli.specs.declared.question.Question.{Question}
use Rattle.cli_words.specs.Questions.{IsAnswerTo, IsUnanswerable, question_hint}
use Rattle.cc_io.proofs.DeviceLemmas.{appends_none}
use Rattle.cli_words.proofs.TaskLemmas.{on_err, on_ok}
use Rattle.cli_words.proofs.questions.answer.Goals as goal

-- A claim on the summary for the bytes of a word holds for the word.
of_word : (result : Result Summary IoError) (bytes word : List ℕ) → bytes ≡ word
    → IfOk result (λ summary. IsTrue summary.any_error ↔ (¬ IsTypedWord bytes))
    → IfOk result (λ summary. IsTrue summary.any_error ↔ (¬ IsTypedWord word))
of_word result bytes word same told = subst (λ (text : List ℕ). IfOk result (λ summary. IsTrue summary.any_error ↔ (¬ IsTypedWord text))) same told

-- A claim on the summary for a question holds for an equal question.
of_question : (result : Result Summary IoError) (question other : Question) → question ≡ other
    → IfOk result (λ summary. IsTrue summary.any_error ↔ IsUnanswerable other)
    → IfOk result (λ summary. IsTrue summary.any_error ↔ IsUnanswerable question)
of_question result question other same told = subst (λ (q : Question). IfOk result (λ summary. IsTrue summary.any_error ↔ IsUnanswerable q)) (sym same) told

pub returns-in-Show-clause-any_error : goal.returns-in-Show-clause-any_error
returns-in-Show-clause-any_error g c = of_question c.show.result c.args.question _ c.in-Show.is c.show.ensures.any_error

pub returns-in-Round-clause-any_error : goal.returns-in-Round-clause-any_error
returns-in-Round-clause-any_error g c = of_question c.round.result c.args.question _ c.in-Round.is c.round.ensures.any_error

pub returns-in-Explain-clause-answered : goal.returns-in-Explain-clause-answered
returns-in-Explain-clause-answered g c =
    subst (λ (q : Question). WritesAnswer (IsAnswerTo q) (g.W.Sink.state c.args.sink.now) (g.W.Sink.state c.explain_word.new.sink) c.explain_word.result) (sym c.in-Explain.is)
    (subst (λ (text : List ℕ). WritesAnswer (IsExplanation text) (g.W.Sink.state c.args.sink.now) (g.W.Sink.state c.explain_word.new.sink) c.explain_word.result)
    c.as_bytes.ensures.value c.explain_word.ensures.shown)

pub returns-in-Explain-clause-any_error : goal.returns-in-Explain-clause-any_error
returns-in-Explain-clause-any_error g c =
    of_question c.explain_word.result c.args.question _ c.in-Explain.is
    (of_word c.explain_word.result c.as_bytes.result.now _ c.as_bytes.ensures.value c.explain_word.ensures.any_error)

pub returns-in-DrawWindow-clause-answered : goal.returns-in-DrawWindow-clause-answered
returns-in-DrawWindow-clause-answered g c =
    subst (λ (q : Question). WritesAnswer (IsAnswerTo q) (g.W.Sink.state c.args.sink.now) (g.W.Sink.state c.draw_window.new.sink) c.draw_window.result) (sym c.in-DrawWindow.is)
    (subst (λ (text : List ℕ). WritesAnswer (IsWindowDrawing text) (g.W.Sink.state c.args.sink.now) (g.W.Sink.state c.draw_window.new.sink) c.draw_window.result)
    c.as_bytes-in-DrawWindow.ensures.value c.draw_window.ensures.shown)

pub returns-in-DrawWindow-clause-any_error : goal.returns-in-DrawWindow-clause-any_error
returns-in-DrawWindow-clause-any_error g c =
    of_question c.draw_window.result c.args.question _ c.in-DrawWindow.is
    (of_word c.draw_window.result c.as_bytes-in-DrawWindow.result.now _ c.as_bytes-in-DrawWindow.ensures.value c.draw_window.ensures.any_error)

pub returns-in-ExplainLength-clause-any_error : goal.returns-in-ExplainLength-clause-any_error
returns-in-ExplainLength-clause-any_error g c = of_question c.explain_request.result c.args.question _ c.in-ExplainLength.is c.explain_request.ensures.any_error

pub returns-in-Explain-clause-hinted : goal.returns-in-Explain-clause-hinted
returns-in-Explain-clause-hinted g c =
    let taken = (g.E.Sink.state c.args.errors.now).taken in
    on_ok c.explain_word.result _ (λ unfailed.
    subst (λ (q : Question). Appends taken taken (question_hint c.args.hints q)) (sym c.in-Explain.is) (appends_none taken))

pub returns-in-Explain-clause-unreported : goal.returns-in-Explain-clause-unreported
returns-in-Explain-clause-unreported g c = on_err c.explain_word.result _ refl

pub returns-in-DrawWindow-clause-hinted : goal.returns-in-DrawWindow-clause-hinted
returns-in-DrawWindow-clause-hinted g c =
    let taken = (g.E.Sink.state c.args.errors.now).taken in
    on_ok c.draw_window.result _ (λ unfailed.
    subst (λ (q : Question). Appends taken taken (question_hint c.args.hints q)) (sym c.in-DrawWindow.is) (appends_none taken))

pub returns-in-DrawWindow-clause-unreported : goal.returns-in-DrawWindow-clause-unreported
returns-in-DrawWindow-clause-unreported g c = on_err c.draw_window.result _ refl
