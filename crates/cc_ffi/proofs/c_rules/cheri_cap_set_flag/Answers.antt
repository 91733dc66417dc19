use Rattle.std.proofs.Common.{ℕ, subst}
use Rattle.cc_cap.specs.Derivation.{SetsFlag}
use Rattle.cc_cap.specs.WordRules.{OnWord}
use Rattle.cc_cap.proofs.SubsetLemmas.{SetsFlag-grants}
use Rattle.cc_ffi.specs.Numbers.{number_of_halves}
use Rattle.cc_ffi.proofs.RuleLemmas.{told_subset}
use Rattle.cc_ffi.proofs.c_rules.cheri_cap_set_flag.Goals as goal

pub returns-clause-made : goal.returns-clause-made
returns-clause-made c = record {
  answer = c.set_flag.result;
  is_answer = subst (λ (word : ℕ). OnWord (λ cap. SetsFlag cap c.args.flag) word c.set_flag.result) c.number.ensures c.set_flag.ensures.made;
  is_made = c.made_word.ensures;
}

pub returns-clause-monotonic : goal.returns-clause-monotonic
returns-clause-monotonic c =
    told_subset (λ cap. SetsFlag cap c.args.flag) (λ cap. SetsFlag-grants cap c.args.flag)
    (number_of_halves c.args.high c.args.low) c.made_word.result (returns-clause-made c)
