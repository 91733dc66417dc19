use Rattle.std.proofs.Common.{refl}
use Rattle.cc_explain.proofs.explained_steps.push_granule.Goals as goal

pub returns-then-fields-clause-value : goal.returns-then-fields-clause-value
returns-then-fields-clause-value c =
    rw (c.if-fields.true, c.end_with_hexadecimal.ensures.value, c.unit.ensures.value) refl

pub returns-else-fields-clause-value : goal.returns-else-fields-clause-value
returns-else-fields-clause-value c =
    rw (c.if-fields.false, c.push.ensures) refl
