use Rattle.std.proofs.Common.{◌≡◌, false, []}
use Rattle.cc_io.proofs.EngineLemmas.{Reads}
use Rattle.cc_io.proofs.pumping.pump.Given as goal

abbrev pub invariant-pieces : goal.invariant-pieces
invariant-pieces g l = record {
  reads : Reads g.A.Answerer.Answered (g.F.Framing.frame l.framing) l.initial.answerer l.fn.page (g.R.Source.state l.initial.source).unread (g.R.Source.state l.source).unread l.start
      (g.W.Sink.state l.fn.sink).taken (g.W.Sink.state l.sink).taken l.any_error l.answerer;
  begun : g.F.Framing.IsBegun l.framing l.start;
  none_waits : l.page ≡ [];
  gives : (g.R.Source.state l.source).has_failed ≡ false;
  takes : (g.W.Sink.state l.sink).has_failed ≡ false;
  goes_on : g.A.Answerer.done l.answerer ≡ false;
}

abbrev pub decreases-pieces : goal.decreases-pieces
decreases-pieces g l = (g.R.Source.state l.source).most_unread
