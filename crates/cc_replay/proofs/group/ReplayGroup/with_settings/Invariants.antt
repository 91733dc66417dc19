use Rattle.std.proofs.Common.{◌≡◌, ◌≤◌, ◌+◌, ◌++◌, length, map}
use Rattle.cc_replay.specs.Group.{begun_group, begun_with}
use Rattle.cc_replay.proofs.group.ReplayGroup.with_settings.Given as goal

abbrev pub invariant-policies : goal.invariant-policies
invariant-policies g l = record {
  made : l.replays.items ++ map (begun_with l.settings l.reading) l.rest ≡ begun_group l.settings l.others l.reading;
  few : length l.replays.items + length l.rest ≤ 8;
}

abbrev pub decreases-policies : goal.decreases-policies
decreases-policies g l = length l.rest
