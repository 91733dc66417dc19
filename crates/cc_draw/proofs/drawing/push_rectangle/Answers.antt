use Rattle.std.proofs.Common.{append_assoc}
use Rattle.cc_draw.proofs.drawing.push_rectangle.Goals as goal

pub returns-clause-value : goal.returns-clause-value
returns-clause-value c =
    rw (
      c.end_with_hexadecimal.ensures.value,
      c.push_hexadecimal.ensures.value,
      c.push_decimal-4.ensures.value,
      c.push_decimal-3.ensures.value,
      c.push_decimal-2.ensures.value,
      c.push_decimal.ensures.value,
      c.from-unit.ensures,
      c.from.ensures,
      c.from-2.ensures,
      c.from-3.ensures,
      c.from-4.ensures,
    )
    (simp append_assoc)
