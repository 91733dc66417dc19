use Rattle.std.proofs.Common.{ℕ, subst}
use Rattle.cc_cap.specs.Derivation.{MasksPermissions}
use Rattle.cc_cap.specs.WordRules.{OnWord}
use Rattle.cc_cap.proofs.SubsetLemmas.{MasksPermissions-grants}
use Rattle.cc_ffi.specs.Numbers.{number_of_halves}
use Rattle.cc_ffi.proofs.RuleLemmas.{told_subset}
use Rattle.cc_ffi.proofs.c_rules.cheri_cap_and_perms.Goals as goal

pub returns-clause-made : goal.returns-clause-made
returns-clause-made c = record {
  answer = c.and_perms.result;
  is_answer =
      subst (λ (word : ℕ). OnWord (λ cap. MasksPermissions cap c.args.mask) word c.and_perms.result) c.number.ensures
      (subst (λ (mask : ℕ). OnWord (λ cap. MasksPermissions cap mask) c.number.result c.and_perms.result) (c.from_bits_retain.ensures tt) c.and_perms.ensures.made);
  is_made = c.made_word.ensures;
}

pub returns-clause-monotonic : goal.returns-clause-monotonic
returns-clause-monotonic c =
    told_subset (λ cap. MasksPermissions cap c.args.mask) (λ cap. MasksPermissions-grants cap c.args.mask)
    (number_of_halves c.args.high c.args.low) c.made_word.result (returns-clause-made c)
