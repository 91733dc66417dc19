use Rattle.std.proofs.Common.{◌≡◌, ◌≤◌, ◌+◌, ◌*◌, ◌++◌, length}
use Rattle.cc_heap.specs.ChartDrawing.{steps_text}
use Rattle.cc_heap.proofs.curves.push_steps.Given as goal

abbrev pub invariant-columns : goal.invariant-columns
invariant-columns g l = record {
  text : l.page ++ steps_text l.curve l.scale l.column l.rest ≡ l.initial.page ++ steps_text l.curve l.scale 0 l.columns;
  fits : length l.page + 82 * length l.rest ≤ length l.initial.page + 82 * length l.columns;
  few : l.column + length l.rest ≤ 256;
}

abbrev pub decreases-columns : goal.decreases-columns
decreases-columns g l = length l.rest
