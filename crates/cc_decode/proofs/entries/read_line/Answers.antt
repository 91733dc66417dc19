use Rattle.std.proofs.Common.{refl, sym, ◌∙◌, ap, subst}
use Rattle.std.specs.Str.Parse.{digits_value}
use Rattle.cc_word.specs.WordText.{IsWordText}
use Rattle.cc_decode.proofs.EntryLemmas.{digits_alone}
use Rattle.cc_decode.proofs.entries.read_line.Goals as goal

pub returns-in-Some-clause-found : goal.returns-in-Some-clause-found
returns-in-Some-clause-found c =
    let is_word = c.in-Some.ensures.found.0 refl in (λ _. subst IsWordText (sym (digits_alone c.args.line.now is_word)) is_word, λ _. refl)

pub returns-in-Some-clause-value : goal.returns-in-Some-clause-value
returns-in-Some-clause-value c =
    let is_word = c.in-Some.ensures.found.0 refl in c.in-Some.ensures.value ∙ ap (digits_value 16) (sym (digits_alone c.args.line.now is_word))
