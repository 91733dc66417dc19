use Rattle.std.proofs.Common.{◌≡◌, ◌≤◌, ◌+◌, ◌-◌, ◌*◌, ◌++◌, length}
use Rattle.cc_heap.specs.ChartDrawing.{byte_labels}
use Rattle.cc_heap.proofs.chart_drawing.push_byte_labels.Given as goal

abbrev pub invariant-steps : goal.invariant-steps
invariant-steps g l = record {
  text : l.page ≡ l.fn.page ++ byte_labels l.scale l.power l.step;
  fits : length l.page ≤ length l.fn.page + 350 * (l.step + 1);
  within : l.step ≤ l.steps;
}

abbrev pub decreases-steps : goal.decreases-steps
decreases-steps g l = l.steps - l.step
