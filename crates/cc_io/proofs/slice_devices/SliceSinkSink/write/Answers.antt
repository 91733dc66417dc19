use Rattle.std.proofs.Common.{arith, rules}
use Rattle.std.proofs.lemmas.Grind.{common_steps}
use Rattle.cc_io.proofs.slice_devices.SliceSinkSink.write.Goals as goal

pub returns-clause-writes : goal.returns-clause-writes
returns-clause-writes c = record {
  count = search rules;
  takes = grind (arith, common_steps);
  some = search rules;
  fails = search rules;
  stays = search rules;
}
