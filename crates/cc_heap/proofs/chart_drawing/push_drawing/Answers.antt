use Rattle.std.proofs.Common.{append_assoc}
use Rattle.cc_heap.proofs.chart_drawing.push_drawing.Goals as goal

pub returns : goal.returns
returns g c =
    rw (
      c.push_markup-3.ensures.value,
      c.push_markup-2.ensures.value,
      c.push_legend.ensures.value,
      c.push_caption.ensures.value,
      c.push_scaled.ensures.value,
      c.push_sheet.ensures.value,
      c.push_counts.ensures.value,
      c.push_markup.ensures.value,
      c.push_opening.ensures.value,
    )
    (simp append_assoc)
