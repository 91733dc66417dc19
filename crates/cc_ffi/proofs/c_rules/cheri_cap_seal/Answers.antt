use Rattle.std.proofs.Common.{ℕ, subst}
use Rattle.cc_cap.specs.Derivation.{Seals}
use Rattle.cc_cap.specs.WordRules.{OnWords}
use Rattle.cc_cap.proofs.SubsetLemmas.{Seals-grants}
use Rattle.cc_ffi.specs.Numbers.{number_of_halves}
use Rattle.cc_ffi.proofs.RuleLemmas.{told_subset_under}
use Rattle.cc_ffi.proofs.c_rules.cheri_cap_seal.Goals as goal

pub returns-clause-made : goal.returns-clause-made
returns-clause-made c = record {
  answer = c.seal.result;
  is_answer =
      subst (λ (word : ℕ). OnWords Seals word (number_of_halves c.args.authority_high c.args.authority_low) c.seal.result) c.number.ensures
      (subst (λ (authority : ℕ). OnWords Seals c.number.result authority c.seal.result) c.number-2.ensures c.seal.ensures.made);
  is_made = c.made_word.ensures;
}

pub returns-clause-monotonic : goal.returns-clause-monotonic
returns-clause-monotonic c =
    told_subset_under Seals Seals-grants (number_of_halves c.args.high c.args.low) (number_of_halves c.args.authority_high c.args.authority_low)
    c.made_word.result (returns-clause-made c)
