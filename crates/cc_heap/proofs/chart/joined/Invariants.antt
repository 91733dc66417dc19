use Rattle.std.proofs.Common.{◌≡◌, ◌+◌, ◌*◌, ◌≤◌, ◌++◌, length}
use Rattle.cc_heap.specs.Chart.{joined}
use Rattle.cc_heap.proofs.chart.joined.Given as goal

abbrev pub invariant-pairs : goal.invariant-pairs
invariant-pairs l = record {
  value : l.joined.items ++ joined l.rest ≡ joined l.columns;
  half : 2 * length l.joined.items + length l.rest ≤ length l.columns;
  few : length l.columns ≤ 256;
}

abbrev pub decreases-pairs : goal.decreases-pairs
decreases-pairs l = length l.rest
