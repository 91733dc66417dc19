use Rattle.std.proofs.Common.{inl, inr, refl, sym}
use Rattle.std.proofs.lemmas.Bool.{false≢true}
use Rattle.cc_explain.proofs.showing.push_answer.Goals as goal

pub returns-in-Some-clause-any_error : goal.returns-in-Some-clause-any_error
returns-in-Some-clause-any_error g c =
    let typed = c.in-Some.ensures.found.0 refl in
    (λ never. absurd (false≢true never), λ isnt. absurd (isnt typed))

pub returns-in-None-clause-answer : goal.returns-in-None-clause-answer
returns-in-None-clause-answer g c = inr (λ typed. false≢true (c.in-None.ensures.found.1 typed), rw (c.push_refusal.ensures.value, c.requires.empty) refl)

pub returns-in-Some-clause-answer : goal.returns-in-Some-clause-answer
returns-in-Some-clause-answer g c =
    let typed = c.in-Some.ensures.found.0 refl in
    rw (sym c.in-Some.ensures.value) (inl (typed, (_, _, c.requires.empty, c.push.ensures, refl)))
