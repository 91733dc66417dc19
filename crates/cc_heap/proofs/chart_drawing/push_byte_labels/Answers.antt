use Rattle.std.proofs.Common.{append_assoc, arith}
use Rattle.cc_heap.proofs.LabelLemmas.{one_more_byte_label}
use Rattle.cc_heap.proofs.chart_drawing.push_byte_labels.Goals as goal

pub steps-preserved : goal.steps-preserved
steps-preserved g c = record {
  text = rw (one_more_byte_label c.args.scale.now c.args.power c.steps.step, c.push_byte_label-in-steps.ensures.value, c.steps.invariant.text, c.down_to-in-steps.ensures, c.power_of_two.ensures.value)
      (simp append_assoc);
  fits = omega (arith, c.push_byte_label-in-steps.ensures.fits, c.steps.invariant.fits);
  within = omega (arith, c.steps-test.true);
}
