use Rattle.std.proofs.Common.{arith, ◌+◌, set}
use Rattle.std.proofs.lemmas.List.{length-set}
use Rattle.cc_machine.proofs.GapRowLemmas.{headed_insert, headed_length, headed_set, split_is}
use Rattle.cc_machine.proofs.gap_row.split.Goals as goal

pub set-requires : goal.set-requires
set-requires c =
    omega (arith, headed_length c.args.blocks.now.blocks c.args.heads.now.heads c.requires.headed, c.requires.within)

pub insert-requires-clause-within : goal.insert-requires-clause-within
insert-requires-clause-within c =
    rw c.set.ensures (omega (
      arith,
      headed_length c.args.blocks.now.blocks c.args.heads.now.heads c.requires.headed,
      c.requires.within,
      length-set c.args.heads.now.heads c.args.block c.head_of.result,
    ))

pub insert-requires-clause-room : goal.insert-requires-clause-room
insert-requires-clause-room c =
    rw c.set.ensures (omega (
      arith,
      headed_length c.args.blocks.now.blocks c.args.heads.now.heads c.requires.headed,
      c.requires.room,
      c.requires.heads_room,
      length-set c.args.heads.now.heads c.args.block c.head_of.result,
    ))

pub returns-clause-split : goal.returns-clause-split
returns-clause-split c =
    rw c.insert-2.ensures.row
    (split_is c.args.blocks.now.blocks c.args.block c.at_mut-lower.result.now c.split-upper.new.self c.split-upper.result
    c.requires.within c.at_mut-lower.ensures.value c.split-upper.ensures.both c.split-upper.ensures.lower_half
    c.split-upper.ensures.upper_half)

pub returns-clause-headed : goal.returns-clause-headed
returns-clause-headed c =
    rw (c.insert-2.ensures.row, c.insert.ensures, c.set.ensures)
    (headed_insert (set c.args.blocks.now.blocks c.args.block c.split-upper.new.self)
    (set c.args.heads.now.heads c.args.block c.head_of.result) (c.args.block + 1) c.split-upper.result c.head_of-2.result
    (headed_set c.args.blocks.now.blocks c.args.heads.now.heads c.args.block c.split-upper.new.self c.head_of.result
    c.requires.headed c.requires.within c.head_of.ensures)
    (omega (arith, c.requires.within, length-set c.args.blocks.now.blocks c.args.block c.split-upper.new.self)) c.head_of-2.ensures)
