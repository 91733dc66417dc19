use Rattle.std.proofs.Common.{append_assoc}
use Rattle.cc_explain.proofs.window_drawing.push_address_mark.Goals as goal

pub returns-clause-value : goal.returns-clause-value
returns-clause-value c =
    rw (
      c.end_with_hexadecimal.ensures.value,
      c.push.ensures,
      c.side.ensures.value,
      c.push_decimal.ensures.value,
      c.end_with_decimal.ensures.value,
      c.from-2.ensures,
      c.units_to-units.ensures,
      c.from.ensures,
    ) (simp append_assoc)
