use Rattle.std.proofs.Common.{length}
use Rattle.cc_replay.proofs.group.+take_each.Given as goal

abbrev pub decreases-take_each : goal.decreases-take_each
decreases-take_each g l = length l.replays.now
