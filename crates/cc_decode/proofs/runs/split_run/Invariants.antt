use Rattle.std.proofs.Common.{◌≤◌, ◌<◌, ◌+◌, ◌-◌, length, take}
use Rattle.cc_decode.specs.Annotate.{IsRun}
use Rattle.cc_decode.proofs.runs.split_run.Given as goal

abbrev pub invariant-loop-at : goal.invariant-loop-at
invariant-loop-at l = record {
  within : l.at ≤ length l.text;
  run : IsRun (take l.at l.text);
  fits : l.begun + l.at < 64;
}

abbrev pub decreases-loop-at : goal.decreases-loop-at
decreases-loop-at l = length l.text - l.at
