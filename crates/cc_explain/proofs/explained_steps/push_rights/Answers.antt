use Rattle.std.proofs.Common.{append_assoc}
use Rattle.cc_explain.proofs.explained_steps.push_rights.Goals as goal

pub returns-clause-value : goal.returns-clause-value
returns-clause-value c =
    rw (
      c.push.ensures,
      c.push_digits-2.ensures.value,
      c.push_decimal-2.ensures.value,
      c.push_decimal.ensures.value,
      c.push_digits.ensures.value,
      c.from.ensures,
      c.from-2.ensures,
      c.bit.ensures,
      c.from-3.ensures,
    ) (simp append_assoc)
