use Rattle.std.proofs.Common.{arith}
use Rattle.cc_placer.proofs.SameSpansLemmas.{same_count}
use Rattle.cc_placers.proofs.sorted.SortedPlacerPlacer.count.Goals as goal

pub returns : goal.returns
returns c spans same =
    same_count c.self.inside.spans.items spans c.len.result (rw (← c.self.view_is) at same) (omega arith)
