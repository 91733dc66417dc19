use Rattle.std.proofs.Common.{arith}
use Rattle.cc_machine.proofs.GapRowLemmas.{bound_set, head_read, headed_length, headed_set}
use Rattle.cc_machine.proofs.gap_row.set_in.Goals as goal

pub at-requires : goal.at-requires
at-requires c =
    omega (arith, headed_length c.args.blocks.now.blocks c.args.heads.now.heads c.requires.headed, c.requires.within)

pub head_after-head-requires-clause-bound : goal.head_after-head-requires-clause-bound
head_after-head-requires-clause-bound c =
    let head = head_read c.args.blocks.now.blocks c.args.heads.now.heads c.args.block c.at_mut-changed.result.now c.at.result
    c.requires.headed c.requires.within c.at_mut-changed.ensures.value c.at.ensures in
    rw c.set.ensures (bound_set c.at_mut-changed.result.now c.at.result.bound c.args.at c.less-2.result c.args.gap head.bound c.less-2.ensures)

pub set-requires-2 : goal.set-requires-2
set-requires-2 c =
    omega (arith, headed_length c.args.blocks.now.blocks c.args.heads.now.heads c.requires.headed, c.requires.within)

pub returns-clause-headed : goal.returns-clause-headed
returns-clause-headed c =
    rw c.set-2.ensures
    (headed_set c.args.blocks.now.blocks c.args.heads.now.heads c.args.block c.set.new.self c.head_after-head.result
    c.requires.headed c.requires.within c.head_after-head.ensures)
