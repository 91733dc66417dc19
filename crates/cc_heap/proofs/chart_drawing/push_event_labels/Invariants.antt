use Rattle.std.proofs.Common.{◌≡◌, ◌≤◌, ◌+◌, ◌-◌, ◌*◌, ◌++◌, length}
use Rattle.cc_heap.specs.ChartDrawing.{event_labels}
use Rattle.cc_heap.proofs.chart_drawing.push_event_labels.Given as goal

abbrev pub invariant-steps : goal.invariant-steps
invariant-steps g l = record {
  text : l.page ≡ l.fn.page ++ event_labels l.scale l.step l.count;
  fits : length l.page ≤ length l.fn.page + 350 * (l.count + 1);
  within : l.count ≤ l.steps;
}

abbrev pub decreases-steps : goal.decreases-steps
decreases-steps g l = l.steps - l.count
