use Rattle.std.proofs.Common.{ℕ, subst}
use Rattle.cc_cap.specs.Derivation.{SetsAddress}
use Rattle.cc_cap.specs.WordRules.{OnWord}
use Rattle.cc_cap.proofs.SubsetLemmas.{SetsAddress-grants}
use Rattle.cc_ffi.specs.Numbers.{number_of_halves}
use Rattle.cc_ffi.proofs.RuleLemmas.{told_subset}
use Rattle.cc_ffi.proofs.c_rules.cheri_cap_set_address.Goals as goal

pub returns-clause-made : goal.returns-clause-made
returns-clause-made c = record {
  answer = c.set_address.result;
  is_answer = subst (λ (word : ℕ). OnWord (λ cap. SetsAddress cap c.args.address) word c.set_address.result) c.number.ensures c.set_address.ensures.made;
  is_made = c.made_word.ensures;
}

pub returns-clause-monotonic : goal.returns-clause-monotonic
returns-clause-monotonic c =
    told_subset (λ cap. SetsAddress cap c.args.address) (λ cap. SetsAddress-grants cap c.args.address)
    (number_of_halves c.args.high c.args.low) c.made_word.result (returns-clause-made c)
