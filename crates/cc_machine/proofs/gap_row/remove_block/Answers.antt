use Rattle.std.proofs.Common.{arith}
use Rattle.cc_machine.proofs.GapRowLemmas.{headed_length, headed_remove}
use Rattle.cc_machine.proofs.gap_row.remove_block.Goals as goal

pub remove-requires-2 : goal.remove-requires-2
remove-requires-2 c =
    omega (arith, headed_length c.args.blocks.now.blocks c.args.heads.now.heads c.requires.headed, c.requires.within)

pub returns-clause-headed : goal.returns-clause-headed
returns-clause-headed c =
    rw (c.remove.ensures.row, c.remove-2.ensures)
    (headed_remove c.args.blocks.now.blocks c.args.heads.now.heads c.args.block c.requires.headed c.requires.within)
