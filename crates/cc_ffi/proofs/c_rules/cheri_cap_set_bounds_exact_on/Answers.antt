use Rattle.std.proofs.Common.{ℕ, subst}
use Rattle.cc_cap.specs.Derivation.{SetsExactBounds}
use Rattle.cc_cap.specs.WordRules.{OnWord}
use Rattle.cc_cap.proofs.SubsetLemmas.{SetsExactBounds-grants}
use Rattle.cc_ffi.specs.Numbers.{number_of_halves}
use Rattle.cc_ffi.proofs.RuleLemmas.{told_subset}
use Rattle.cc_ffi.proofs.c_rules.cheri_cap_set_bounds_exact_on.Goals as goal

pub returns-clause-made : goal.returns-clause-made
returns-clause-made c = record {
  answer = c.set_bounds_exact.result;
  is_answer =
      subst (λ (word : ℕ). OnWord (λ cap. SetsExactBounds cap (number_of_halves c.args.length_high c.args.length_low)) word c.set_bounds_exact.result) c.number.ensures
      (subst (λ (length : ℕ). OnWord (λ cap. SetsExactBounds cap length) c.number.result c.set_bounds_exact.result) c.number-2.ensures c.set_bounds_exact.ensures.made);
  is_made = c.made_word.ensures;
}

pub returns-clause-monotonic : goal.returns-clause-monotonic
returns-clause-monotonic c =
    told_subset (λ cap. SetsExactBounds cap (number_of_halves c.args.length_high c.args.length_low)) (λ cap. SetsExactBounds-grants cap (number_of_halves c.args.length_high c.args.length_low))
    (number_of_halves c.args.high c.args.low) c.made_word.result (returns-clause-made c)
