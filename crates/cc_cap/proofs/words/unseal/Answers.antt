use Rattle.std.proofs.Common.{◌∙◌, ap, Err}
use Rattle.std.proofs.lemmas.Result.{err_from_is_err_and}
use Rattle.cc_cap.specs.Derivation.{Unseals}
use Rattle.cc_cap.proofs.WordRuleLemmas.{words_made, words_refused}
use Rattle.cc_cap.proofs.words.unseal.Goals as goal

pub returns-in_err-authority : goal.returns-in_err-authority
returns-in_err-authority c =
    let told = err_from_is_err_and c.from_residual-in_err-authority.result c.from_residual-in_err-authority.ensures.1 in
    let not = c.in_err-authority.ensures in
    record {
      made = words_refused Unseals c.args.word c.args.authority c.in_ok-cap.cap c.from_residual-in_err-authority.result
          c.in_ok-cap.ensures not.0 (told.1 ∙ ap Err (told.2 ∙ not.1));
    }

pub returns : goal.returns
returns c = record {
  made = words_made Unseals c.args.word c.args.authority c.in_ok-cap.cap c.in_ok-authority.authority c.unseal.result c.in_words.result
      c.in_ok-cap.ensures c.in_ok-authority.ensures c.unseal.ensures.made c.in_words.ensures;
}
