use Rattle.std.proofs.Common.{append_assoc}
use Rattle.cc_heap.proofs.chart_drawing.push_counts.Goals as goal

pub returns-clause-value : goal.returns-clause-value
returns-clause-value g c = rw (c.end_with_decimal.ensures.value, c.push_decimal.ensures.value, c.from.ensures) (simp append_assoc)
