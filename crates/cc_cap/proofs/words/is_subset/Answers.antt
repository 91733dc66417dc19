use Rattle.std.proofs.Common.{sym, subst}
use Rattle.cc_cap.specs.WordRules.{IsSubset}
use Rattle.cc_cap.proofs.WordRuleLemmas.{IsSubset-capabilities}
use Rattle.cc_cap.proofs.words.is_subset.Goals as goal

pub returns-clause-words : goal.returns-clause-words
returns-clause-words c one other is is' =
    let first = c.unpack.ensures.only one is in
    let second = c.unpack-2.ensures.only other is' in
    let both = c.is_subset_of.ensures in (
      λ yes. subst (λ f. IsSubset f other) (sym first) (subst (IsSubset c.unpack.result) (sym second) (both.0 yes)),
      λ subset. both.1 (subst (λ f. IsSubset f c.unpack-2.result) first (subst (IsSubset one) second subset)),
    )

pub returns-clause-capabilities : goal.returns-clause-capabilities
returns-clause-capabilities c one other has has' =
    let both = c.is_subset_of.ensures in
    let same = IsSubset-capabilities one other c.args.inner c.args.outer c.unpack.result c.unpack-2.result has has' c.unpack.ensures.word c.unpack-2.ensures.word in
    (λ yes. same.0 (both.0 yes), λ grants. both.1 (same.1 grants))
