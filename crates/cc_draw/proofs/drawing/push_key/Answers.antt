use Rattle.std.proofs.Common.{append_assoc}
use Rattle.cc_draw.proofs.drawing.push_key.Goals as goal

pub returns-clause-value : goal.returns-clause-value
returns-clause-value c = rw (c.push_markup-3.ensures.value, c.push_markup-2.ensures.value, c.push_markup.ensures.value) (simp append_assoc)
