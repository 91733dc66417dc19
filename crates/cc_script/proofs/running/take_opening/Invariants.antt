use Rattle.std.proofs.Common.{◌≡◌, false, take}
use Rattle.cc_script.specs.Running.{Opens}
use Rattle.cc_script.proofs.running.take_opening.Given as goal

abbrev pub invariant-loop-op : goal.invariant-loop-op
invariant-loop-op g l = record {
  opens : Opens g.row.N l.initial.machine l.initial.tally (take l.op-index l.opening) l.page (g.W.Sink.state l.initial.sink).taken
      (g.W.Sink.state l.sink).taken l.any_error l.machine l.tally;
  works : (g.W.Sink.state l.sink).has_failed ≡ false;
}
