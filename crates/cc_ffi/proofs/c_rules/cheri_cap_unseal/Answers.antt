use Rattle.std.proofs.Common.{ℕ, subst}
use Rattle.cc_cap.specs.Derivation.{Unseals}
use Rattle.cc_cap.specs.WordRules.{OnWords}
use Rattle.cc_cap.proofs.SubsetLemmas.{Unseals-grants}
use Rattle.cc_ffi.specs.Numbers.{number_of_halves}
use Rattle.cc_ffi.proofs.RuleLemmas.{told_subset_under}
use Rattle.cc_ffi.proofs.c_rules.cheri_cap_unseal.Goals as goal

pub returns-clause-made : goal.returns-clause-made
returns-clause-made c = record {
  answer = c.unseal.result;
  is_answer =
      subst (λ (word : ℕ). OnWords Unseals word (number_of_halves c.args.authority_high c.args.authority_low) c.unseal.result) c.number.ensures
      (subst (λ (authority : ℕ). OnWords Unseals c.number.result authority c.unseal.result) c.number-2.ensures c.unseal.ensures.made);
  is_made = c.made_word.ensures;
}

pub returns-clause-monotonic : goal.returns-clause-monotonic
returns-clause-monotonic c =
    told_subset_under Unseals Unseals-grants (number_of_halves c.args.high c.args.low) (number_of_halves c.args.authority_high c.args.authority_low)
    c.made_word.result (returns-clause-made c)
