use Rattle.std.proofs.Common.{◌≡◌, length}
use Rattle.cc_heap.specs.Levels.{greater_of, greatest_of}
use Rattle.cc_heap.proofs.levels.greatest_of.Given as goal

abbrev pub invariant-levels : goal.invariant-levels
invariant-levels l = greater_of l.most (greatest_of l.rest) ≡ greatest_of l.all

abbrev pub decreases-levels : goal.decreases-levels
decreases-levels l = length l.rest
