use Rattle.std.proofs.Common.{◌≡◌, ◌≤◌, ◌+◌, length}
use Rattle.std.specs.Prelude.{max}
use Rattle.cc_draw.specs.Usage.{holes, largest_of}
use Rattle.cc_draw.proofs.usage.holes_beside.Given as goal

abbrev pub invariant-spans : goal.invariant-spans
invariant-spans l = record {
  count : l.holes.count + length (holes l.from l.pool.top l.rest) ≡ length (holes l.pool.base l.pool.top l.order);
  largest : max l.holes.largest (largest_of (holes l.from l.pool.top l.rest)) ≡ largest_of (holes l.pool.base l.pool.top l.order);
  few : l.holes.count + length l.rest ≤ length l.order;
}

abbrev pub decreases-spans : goal.decreases-spans
decreases-spans l = length l.rest
