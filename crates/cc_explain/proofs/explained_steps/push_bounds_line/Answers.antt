use Rattle.std.proofs.Common.{append_assoc}
use Rattle.cc_explain.proofs.explained_steps.push_bounds_line.Goals as goal

pub returns-clause-value : goal.returns-clause-value
returns-clause-value c =
    rw (c.push.ensures, c.push_hexadecimal.ensures.value, c.push_bounds_fields.ensures.value, c.from.ensures) (simp append_assoc)
