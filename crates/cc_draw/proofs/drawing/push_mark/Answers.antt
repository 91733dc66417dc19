use Rattle.std.proofs.Common.{append_assoc}
use Rattle.cc_draw.proofs.drawing.push_mark.Goals as goal

pub returns-clause-value : goal.returns-clause-value
returns-clause-value c =
    rw (c.end_with_hexadecimal.ensures.value, c.push_decimal.ensures.value, c.from.ensures, c.from-2.ensures) (simp append_assoc)
