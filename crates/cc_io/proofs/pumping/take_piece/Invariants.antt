use Rattle.std.proofs.Common.{◌≡◌, ℕ, List, false, length, take}
use Rattle.cc_io.proofs.EngineLemmas.{AnswersFirst}
use Rattle.cc_io.proofs.pumping.take_piece.Given as goal

abbrev pub invariant-entries : goal.invariant-entries
invariant-entries g l = record {
  answers : (begun : List ℕ) → l.initial.start ≡ take 129 begun → AnswersFirst g.A.Answerer.Answered (g.F.Framing.frame l.framing) g.row.N g.A.Answerer.MOST
      l.initial.answerer begun l.piece l.rest l.start (g.W.Sink.state l.initial.sink).taken (g.W.Sink.state l.sink).taken l.page l.any_error l.answerer;
  begun : g.F.Framing.IsBegun l.framing l.start;
  works : (g.W.Sink.state l.sink).has_failed ≡ false;
  goes_on : g.A.Answerer.done l.answerer ≡ false;
}

abbrev pub decreases-entries : goal.decreases-entries
decreases-entries g l = length l.rest
