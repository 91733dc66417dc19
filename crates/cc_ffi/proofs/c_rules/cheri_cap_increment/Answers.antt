use Rattle.std.proofs.Common.{ℕ, ◌+◌, ◌%◌, ◌^◌, subst}
use Rattle.cc_cap.specs.Derivation.{Increments}
use Rattle.cc_cap.specs.WordRules.{OnWord}
use Rattle.cc_cap.proofs.SubsetLemmas.{SetsAddress-grants}
use Rattle.cc_ffi.specs.Numbers.{number_of_halves}
use Rattle.cc_ffi.proofs.RuleLemmas.{told_subset}
use Rattle.cc_ffi.proofs.c_rules.cheri_cap_increment.Goals as goal

pub returns-clause-made : goal.returns-clause-made
returns-clause-made c = record {
  answer = c.increment.result;
  is_answer = subst (λ (word : ℕ). OnWord (λ cap. Increments cap c.args.amount) word c.increment.result) c.number.ensures c.increment.ensures.made;
  is_made = c.made_word.ensures;
}

pub returns-clause-monotonic : goal.returns-clause-monotonic
returns-clause-monotonic c =
    told_subset (λ cap. Increments cap c.args.amount) (λ cap. SetsAddress-grants cap ((cap.address + c.args.amount) % 2 ^ 64))
    (number_of_halves c.args.high c.args.low) c.made_word.result (returns-clause-made c)
