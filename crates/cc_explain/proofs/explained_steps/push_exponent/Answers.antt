use Rattle.std.proofs.Common.{append_assoc, refl}
use Rattle.cc_explain.proofs.explained_steps.push_exponent.Goals as goal

pub returns-then-fields-clause-value : goal.returns-then-fields-clause-value
returns-then-fields-clause-value c =
    rw (
      c.if-fields.true,
      c.end_with_decimal.ensures.value,
      c.push_decimal-then-fields.ensures.value,
      c.push_decimal.ensures.value,
      c.from.ensures,
      c.from-then-fields.ensures,
      c.from-then-fields-2.ensures,
    ) (simp append_assoc)

pub returns-else-fields-clause-value : goal.returns-else-fields-clause-value
returns-else-fields-clause-value c =
    rw (c.if-fields.false, c.push.ensures) refl
