use Rattle.std.proofs.Common.{arith, ◌+◌, length-append, remove}
use Rattle.std.proofs.lemmas.List.Edits.{length-remove}
use Rattle.cc_machine.proofs.GapRowLemmas.{crowded, headed_length, headed_remove, headed_set, joined_head, joined_is}
use Rattle.cc_machine.proofs.gap_row.join_two.Goals as goal

pub unreachable-requires : goal.unreachable-requires
unreachable-requires c =
    omega (arith, crowded c.args.blocks.now.blocks c.in_default.ensures.none, c.requires.many)

pub remove-requires : goal.remove-requires
remove-requires c =
    omega (arith, headed_length c.args.blocks.now.blocks c.args.heads.now.heads c.requires.headed, c.in-Some.ensures.some)

pub head_of-requires : goal.head_of-requires
head_of-requires c =
    let head = joined_head c.args.blocks.now.blocks c.args.heads.now.heads c.in-Some.at c.at_mut-block.result.now
    c.requires.headed c.in-Some.ensures.some (rw c.remove-upper.ensures.row at c.at_mut-block.ensures.value) in
    rw c.take_in.ensures (omega (arith, head, length-append c.at_mut-block.result.now c.remove-upper.result))

pub set-requires : goal.set-requires
set-requires c =
    rw c.remove.ensures (omega (
      arith,
      headed_length c.args.blocks.now.blocks c.args.heads.now.heads c.requires.headed,
      c.in-Some.ensures.some,
      length-remove c.args.heads.now.heads (c.in-Some.at + 1)
          (omega (arith, headed_length c.args.blocks.now.blocks c.args.heads.now.heads c.requires.headed, c.in-Some.ensures.some)),
    ))

pub returns-clause-gaps : goal.returns-clause-gaps
returns-clause-gaps c =
    rw c.remove-upper.ensures.row
    (joined_is c.args.blocks.now.blocks c.in-Some.at c.at_mut-block.result.now c.remove-upper.result c.take_in.new.self
    c.in-Some.ensures.some (rw c.remove-upper.ensures.row at c.at_mut-block.ensures.value) c.remove-upper.ensures.value
    c.take_in.ensures)

pub returns-clause-headed : goal.returns-clause-headed
returns-clause-headed c =
    rw (c.remove-upper.ensures.row, c.set.ensures, c.remove.ensures)
    (headed_set (remove c.args.blocks.now.blocks (c.in-Some.at + 1)) (remove c.args.heads.now.heads (c.in-Some.at + 1))
    c.in-Some.at c.take_in.new.self c.head_of.result
    (headed_remove c.args.blocks.now.blocks c.args.heads.now.heads (c.in-Some.at + 1) c.requires.headed c.in-Some.ensures.some)
    (omega (arith, c.in-Some.ensures.some, length-remove c.args.blocks.now.blocks (c.in-Some.at + 1) c.in-Some.ensures.some))
    c.head_of.ensures)
