use Rattle.std.proofs.Common.{option_map}
use Rattle.cc_machine.specs.GapRowState.{gaps_in}
use Rattle.cc_machine.proofs.GapPlacerLemmas.{room_of_gaps}
use Rattle.cc_machine.proofs.gaps.GapPlacerPlacer.find.Goals as goal

pub returns : goal.returns
returns c spans may =
    rw (← c.self.view_is)
    (room_of_gaps c.self.inside.pool spans (gaps_in c.self.inside.row) c.args.len c.args.align
    (option_map (λ found. found.0) c.first_fit.result)
    (rw (← c.self.view_is) at may).free c.requires.some c.first_fit.ensures)
