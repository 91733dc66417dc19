use Rattle.std.proofs.Common.{◌≡◌, ℕ, List, ◌++◌, ◌∙◌, ap, subst, take}
use Rattle.cc_io.specs.Answers.{AnswersInto}
use Rattle.cc_io.proofs.LineLemmas.{start_longer}
use Rattle.cc_io.proofs.pumping.end_begun.Goals as goal

pub returns-clause-answers : goal.returns-clause-answers
returns-clause-answers g c begun is =
    let end = c.args.end.now in
    let same : c.as_slice.result.now ≡ take 129 (begun ++ end) =
    c.as_slice.ensures ∙ c.extend.ensures ∙ ap (λ (l : List ℕ). take 129 (l ++ end)) is ∙ start_longer begun end in
    subst (λ (l : List ℕ). AnswersInto g.A.Answerer.Answered c.args.answerer.now l c.args.page.now c.answer-is_error.new.out c.answer-is_error.result c.answer-is_error.new.self) same
    c.answer-is_error.ensures
