use Rattle.std.proofs.Common.{◌≡◌, ◌≤◌, ◌+◌, ◌*◌, ◌++◌, [], length}
use Rattle.cc_replay.specs.Group.{more_policies}
use Rattle.cc_replay.proofs.group.push_replays.Given as goal

abbrev pub invariant-rows : goal.invariant-rows
invariant-rows g l = record {
  text : l.page ++ more_policies l.format l.before l.rest ≡ l.initial.page ++ more_policies l.format [] l.replays;
  fits : length l.page + 4404 * length l.rest ≤ length l.initial.page + 35232;
  short : length l.before ≤ 2;
}

abbrev pub decreases-rows : goal.decreases-rows
decreases-rows g l = length l.rest
