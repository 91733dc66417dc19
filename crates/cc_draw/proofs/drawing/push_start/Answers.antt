use Rattle.std.proofs.Common.{append_assoc}
use Rattle.cc_draw.proofs.drawing.push_start.Goals as goal

pub returns : goal.returns
returns c = rw (c.push_markup.ensures.value, c.push_rows.ensures.value, c.push_marks.ensures.value, c.push_head.ensures.value) (simp append_assoc)
