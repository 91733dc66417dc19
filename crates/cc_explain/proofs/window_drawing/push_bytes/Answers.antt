use Rattle.std.proofs.Common.{append_assoc}
use Rattle.cc_explain.proofs.window_drawing.push_bytes.Goals as goal

pub returns-clause-value : goal.returns-clause-value
returns-clause-value c =
    rw (c.end_with_decimal.ensures.value, c.push_decimal.ensures.value, c.saturating_sub.ensures, c.units_to-base.ensures, c.units_to-top.ensures) (simp append_assoc)
