use Rattle.std.proofs.Common.{◌≡◌, ◌+◌, length}
use Rattle.cc_draw.specs.Usage.{asked_bytes_of}
use Rattle.cc_draw.proofs.usage.asked_bytes.Given as goal

abbrev pub invariant-objects : goal.invariant-objects
invariant-objects l = l.asked + asked_bytes_of l.rest ≡ asked_bytes_of l.objects

abbrev pub decreases-objects : goal.decreases-objects
decreases-objects l = length l.rest
