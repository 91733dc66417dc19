use Rattle.std.proofs.Common.{ℕ, subst}
use Rattle.cc_cap.specs.Derivation.{Rebuilds}
use Rattle.cc_cap.specs.WordRules.{OnWord}
use Rattle.cc_cap.proofs.SubsetLemmas.{Rebuilds-grants}
use Rattle.cc_ffi.specs.Numbers.{number_of_halves}
use Rattle.cc_ffi.proofs.RuleLemmas.{told_subset}
use Rattle.cc_ffi.proofs.c_rules.cheri_cap_rebuild.Goals as goal

pub returns-clause-made : goal.returns-clause-made
returns-clause-made c = record {
  answer = c.rebuild.result;
  is_answer =
      subst (λ (authority : ℕ). OnWord (λ cap. Rebuilds cap (number_of_halves c.args.high c.args.low)) authority c.rebuild.result) c.number.ensures
      (subst (λ (word : ℕ). OnWord (λ cap. Rebuilds cap word) c.number.result c.rebuild.result) c.number-2.ensures c.rebuild.ensures.made);
  is_made = c.made_word.ensures;
}

pub returns-clause-monotonic : goal.returns-clause-monotonic
returns-clause-monotonic c =
    told_subset (λ by. Rebuilds by (number_of_halves c.args.high c.args.low)) (λ by. Rebuilds-grants by (number_of_halves c.args.high c.args.low))
    (number_of_halves c.args.authority_high c.args.authority_low) c.made_word.result (returns-clause-made c)
