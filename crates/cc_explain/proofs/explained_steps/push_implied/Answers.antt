use Rattle.std.proofs.Common.{append_assoc}
use Rattle.cc_explain.proofs.explained_steps.push_implied.Goals as goal

pub returns-clause-value : goal.returns-clause-value
returns-clause-value c =
    rw (
      c.end_with_decimal.ensures.value,
      c.push_decimal-3.ensures.value,
      c.push_decimal-2.ensures.value,
      c.push_decimal.ensures.value,
      c.carry-2.ensures.value,
      c.carry.ensures.value,
      c.bit.ensures,
      c.bit-2.ensures,
      c.from-upper.ensures,
    ) (simp append_assoc)
