use Rattle.std.proofs.Common.{ap, arith, length, length-append, rules, subst, sym}
use Rattle.std.specs.Prelude.{codes}
use Rattle.cc_heap.specs.declared.policy.Policy.{Policy}
use Rattle.cc_replay.specs.PolicyText.{IsPolicyText, policy_text}
use Rattle.cc_replay.proofs.PolicyLemmas.{bytes_named, frees_named, percentage_named}
use Rattle.cc_replay.proofs.policy_text.push_policy.Goals as goal

pub push_decimal-requires : goal.push_decimal-requires
push_decimal-requires g c =
    (search rules, omega (arith, ap length c.push-in-Bytes.ensures, length-append c.args.page.now (codes "bytes:"), c.requires))

pub push_decimal-requires-in-Frees : goal.push_decimal-requires-in-Frees
push_decimal-requires-in-Frees g c =
    (search rules, omega (arith, ap length c.push-in-Frees.ensures, length-append c.args.page.now (codes "frees:"), c.requires))

pub returns-in-Bytes-clause-fits : goal.returns-in-Bytes-clause-fits
returns-in-Bytes-clause-fits g c =
    omega (arith, c.push_decimal.ensures.fits, ap length c.push-in-Bytes.ensures, length-append c.args.page.now (codes "bytes:"))

pub returns-in-Frees-clause-fits : goal.returns-in-Frees-clause-fits
returns-in-Frees-clause-fits g c =
    omega (arith, c.push_decimal-in-Frees.ensures.fits, ap length c.push-in-Frees.ensures, length-append c.args.page.now (codes "frees:"))

pub returns-in-Bytes-clause-names : goal.returns-in-Bytes-clause-names
returns-in-Bytes-clause-names g c =
    subst (λ (policy : Policy). IsPolicyText policy (policy_text policy)) (sym c.in-Bytes.is) (bytes_named c.in-Bytes.bytes (omega arith))

pub returns-in-Frees-clause-names : goal.returns-in-Frees-clause-names
returns-in-Frees-clause-names g c =
    subst (λ (policy : Policy). IsPolicyText policy (policy_text policy)) (sym c.in-Frees.is) (frees_named c.in-Frees.frees (omega arith))

pub returns-in-Percent-clause-names : goal.returns-in-Percent-clause-names
returns-in-Percent-clause-names g c =
    subst (λ (policy : Policy). IsPolicyText policy (policy_text policy)) (sym c.in-Percent.is)
    (percentage_named c.in-Percent.percent c.in-Percent.of (omega arith))
