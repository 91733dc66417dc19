use Rattle.std.proofs.Common.{append_assoc}
use Rattle.cc_draw.proofs.drawing.push_head.Goals as goal

pub returns-clause-value : goal.returns-clause-value
returns-clause-value c =
    rw (
      c.push_markup-2.ensures.value,
      c.push_key.ensures.value,
      c.push_bounds-2.ensures.value,
      c.push_markup.ensures.value,
      c.end_with_hexadecimal.ensures.value,
      c.push_bounds.ensures.value,
      c.end_with_decimal.ensures.value,
      c.from.ensures,
      c.rows.ensures.value,
      c.requires.empty,
    )
    (simp append_assoc)
