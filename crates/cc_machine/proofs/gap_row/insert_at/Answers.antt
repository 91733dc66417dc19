use Rattle.std.proofs.Common.{arith, []}
use Rattle.cc_machine.proofs.GapRowLemmas.{gaps_insert, length_of_block, split_insert_lower, split_insert_upper}
use Rattle.cc_machine.proofs.gap_row.insert_at.Goals as goal

pub returns-then-len-lt-MOST_GAPS-clause-gaps : goal.returns-then-len-lt-MOST_GAPS-clause-gaps
returns-then-len-lt-MOST_GAPS-clause-gaps c =
    rw c.insert_in.ensures.blocks
    (gaps_insert c.args.blocks.now.blocks c.args.block c.args.at c.args.gap c.requires.within c.requires.inside)

pub returns-then-at-le-HALF-clause-gaps : goal.returns-then-at-le-HALF-clause-gaps
returns-then-at-le-HALF-clause-gaps c =
    rw c.insert_in-then-at-le-HALF.ensures.blocks
    (split_insert_lower c.args.blocks.now.blocks c.split.new.blocks.blocks c.args.block c.args.at c.args.gap
    c.split.ensures.split (omega (arith, c.split.ensures.len, c.requires.within)) c.if-at-le-HALF.true)

pub returns-else-at-le-HALF-clause-gaps : goal.returns-else-at-le-HALF-clause-gaps
returns-else-at-le-HALF-clause-gaps c =
    rw c.insert_in-else-at-le-HALF.ensures.blocks
    (split_insert_upper c.args.blocks.now.blocks c.split.new.blocks.blocks c.args.block c.args.at c.args.gap
    c.split.ensures.split (omega (arith, c.split.ensures.len, c.requires.within)) (omega (arith, c.if-at-le-HALF.false))
    (omega (
      arith,
      c.requires.inside,
      c.len.ensures.few,
      c.len.ensures.value,
      length_of_block c.args.blocks.now.blocks c.args.block c.at.result.now [] c.requires.within c.at.ensures,
    )))
