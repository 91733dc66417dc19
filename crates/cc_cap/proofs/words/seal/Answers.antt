use Rattle.std.proofs.Common.{◌∙◌, ap, Err}
use Rattle.std.proofs.lemmas.Result.{err_from_is_err_and}
use Rattle.cc_cap.specs.Derivation.{Seals}
use Rattle.cc_cap.proofs.WordRuleLemmas.{words_made, words_refused}
use Rattle.cc_cap.proofs.words.seal.Goals as goal

pub returns-in_err-authority : goal.returns-in_err-authority
returns-in_err-authority c =
    let told = err_from_is_err_and c.from_residual-in_err-authority.result c.from_residual-in_err-authority.ensures.1 in
    let not = c.in_err-authority.ensures in
    record {
      made = words_refused Seals c.args.word c.args.authority c.in_ok-cap.cap c.from_residual-in_err-authority.result
          c.in_ok-cap.ensures not.0 (told.1 ∙ ap Err (told.2 ∙ not.1));
    }

pub returns : goal.returns
returns c = record {
  made = words_made Seals c.args.word c.args.authority c.in_ok-cap.cap c.in_ok-authority.authority c.seal.result c.in_words.result
      c.in_ok-cap.ensures c.in_ok-authority.ensures c.seal.ensures.made c.in_words.ensures;
}
