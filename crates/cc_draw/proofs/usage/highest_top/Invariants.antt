use Rattle.std.proofs.Common.{◌≡◌, length}
use Rattle.std.specs.Prelude.{max}
use Rattle.cc_draw.specs.Usage.{highest_top}
use Rattle.cc_draw.proofs.usage.highest_top.Given as goal

abbrev pub invariant-objects : goal.invariant-objects
invariant-objects l = max l.highest (highest_top l.rest) ≡ highest_top l.objects

abbrev pub decreases-objects : goal.decreases-objects
decreases-objects l = length l.rest
