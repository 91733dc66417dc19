use Rattle.std.proofs.Common.{◌≡◌, ◌+◌, ◌++◌, length}
use Rattle.cc_replay.specs.Rows.{json_key}
use Rattle.cc_replay.proofs.rows.push_key.Given as goal

abbrev pub invariant-bytes : goal.invariant-bytes
invariant-bytes g l = record {
  text : l.page ++ json_key l.rest ≡ l.initial.page ++ json_key l.name;
  fits : length l.page + length l.rest ≡ length l.initial.page + length l.name;
}

abbrev pub decreases-bytes : goal.decreases-bytes
decreases-bytes g l = length l.rest
