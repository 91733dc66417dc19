use Rattle.std.proofs.Common.{append_assoc, arith}
use Rattle.cc_heap.proofs.LabelLemmas.{one_more_event_label}
use Rattle.cc_heap.proofs.chart_drawing.push_event_labels.Goals as goal

pub steps-preserved : goal.steps-preserved
steps-preserved g c = record {
  text = rw (one_more_event_label c.args.scale.now c.args.step c.steps.count, c.push_event_label-in-steps.ensures.value, c.steps.invariant.text)
      (simp append_assoc);
  fits = omega (arith, c.push_event_label-in-steps.ensures.fits, c.steps.invariant.fits);
  within = omega (arith, c.steps-test.true);
}
