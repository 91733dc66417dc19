use Rattle.std.proofs.Common.{append_assoc}
use Rattle.cc_heap.proofs.chart_drawing.push_event_label.Goals as goal

pub returns-clause-value : goal.returns-clause-value
returns-clause-value g c =
    rw (
      c.push.ensures,
      c.event_letter.ensures.value,
      c.push_decimal-2.ensures.value,
      c.event_unit.ensures.value,
      c.push_decimal.ensures.value,
      c.end_with_decimal.ensures.value,
      c.right_to-right.ensures,
    )
    (simp append_assoc)
