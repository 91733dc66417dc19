use Rattle.std.proofs.Common.{◌≡◌, ◌≤◌, ◌+◌, ◌++◌, false, length}
use Rattle.cc_draw.specs.Drawing.{layer_text}
use Rattle.cc_draw.proofs.WritingLemmas.{Writing}
use Rattle.cc_draw.proofs.drawing.write_objects.Given as goal

abbrev pub invariant-objects : goal.invariant-objects
invariant-objects g l = record {
  writes : Writing (g.W.Sink.state l.initial.sink).taken (g.W.Sink.state l.sink).taken
      (l.page ++ layer_text l.layout l.state l.number l.rest) (layer_text l.layout l.state 1 l.objects);
  works : (g.W.Sink.state l.sink).has_failed ≡ false;
  number : l.number + length l.rest ≤ 65537;
}

abbrev pub decreases-objects : goal.decreases-objects
decreases-objects g l = length l.rest
