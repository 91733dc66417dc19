use Rattle.std.proofs.Common.{append_assoc}
use Rattle.cc_heap.proofs.chart_drawing.push_legend.Goals as goal

pub returns-clause-value : goal.returns-clause-value
returns-clause-value g c =
    rw (c.push_entry-4.ensures.value, c.push_entry-3.ensures.value, c.push_entry-2.ensures.value, c.push_entry.ensures.value) (simp append_assoc)
