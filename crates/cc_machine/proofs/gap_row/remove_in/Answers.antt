use Rattle.std.proofs.Common.{arith}
use Rattle.cc_machine.proofs.GapRowLemmas.{bound_remove, head_read, headed_length, headed_set}
use Rattle.cc_machine.proofs.gap_row.remove_in.Goals as goal

pub at-requires : goal.at-requires
at-requires c =
    omega (arith, headed_length c.args.blocks.now.blocks c.args.heads.now.heads c.requires.headed, c.requires.within)

pub head_after-head-requires-clause-bound : goal.head_after-head-requires-clause-bound
head_after-head-requires-clause-bound c =
    let head = head_read c.args.blocks.now.blocks c.args.heads.now.heads c.args.block c.at_mut-changed.result.now c.at.result
    c.requires.headed c.requires.within c.at_mut-changed.ensures.value c.at.ensures in
    rw c.remove.ensures (bound_remove c.at_mut-changed.result.now c.at.result.bound c.args.at head.bound)

pub set-requires : goal.set-requires
set-requires c =
    omega (arith, headed_length c.args.blocks.now.blocks c.args.heads.now.heads c.requires.headed, c.requires.within)

pub returns-clause-headed : goal.returns-clause-headed
returns-clause-headed c =
    rw c.set.ensures
    (headed_set c.args.blocks.now.blocks c.args.heads.now.heads c.args.block c.remove.new.self c.head_after-head.result
    c.requires.headed c.requires.within c.head_after-head.ensures)
