use Rattle.std.proofs.Common.{rules, inl, inr, subst, ℕ, List}
use Rattle.std.specs.Prelude.{IfOk, IsTrue, ◌↔◌}
use Rattle.cc_word.specs.WordText.{IsWordText}
use Rattle.cc_io.specs.CommandOutput.{AnswersText}
use Rattle.cc_explain.specs.WindowDrawing.{IsWindowDrawing, IsWordDrawing}
use Rattle.cc_explain.proofs.window_drawing.draw_window.Goals as goal

pub returns-clause-shown : goal.returns-clause-shown
returns-clause-shown g c =
    let told = c.write_answer.ensures.shown in
    let is : IsWindowDrawing c.args.text.now told.answer =
    subst (λ (text : List ℕ). AnswersText IsWordDrawing text told.answer) c.digits_in.ensures (elim told.is_answer [
      | inl word ↦ inl (word.0, subst (λ (lines : List ℕ). IsWordDrawing _ lines) word.1.4 word.1.3)
      | inr none ↦ inr none
    ]) in
    search (rules, is)

pub returns-clause-any_error : goal.returns-clause-any_error
returns-clause-any_error g c =
    subst (λ (text : List ℕ). IfOk c.write_answer.result (λ summary. IsTrue summary.any_error ↔ (¬ IsWordText text))) c.digits_in.ensures c.write_answer.ensures.any_error
