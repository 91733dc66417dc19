use Rattle.std.proofs.Common.{length}
use Rattle.cc_replay.proofs.group.+end_each.Given as goal

abbrev pub decreases-end_each : goal.decreases-end_each
decreases-end_each g l = length l.replays.now
