use Rattle.std.proofs.Common.{arith}
use Rattle.cc_machine.proofs.GapRowLemmas.{found_read, gaps_of_read, headed_length, none_narrow, none_read}
use Rattle.cc_machine.proofs.gap_row.fit_in_group.Goals.{then-at-less+in_default, else-at-less}
use Rattle.cc_machine.proofs.gap_row.fit_in_group.Goals as goal

pub at-requires-then-at-less : goal.at-requires-then-at-less
at-requires-then-at-less c =
    let same = headed_length c.args.blocks.now.blocks c.args.heads.now.heads c.requires.headed in
    omega (arith, same, c.loop-at-test.true, c.min-at-end.ensures, c.len.ensures.value)

pub fit-requires-clause-gaps : goal.fit-requires-clause-gaps
fit-requires-clause-gaps c =
    let same = headed_length c.args.blocks.now.blocks c.args.heads.now.heads c.requires.headed in
    gaps_of_read c.args.blocks.now.blocks c.loop-at.at c.at-then-at-less.result.now c.requires.gaps
    (omega (arith, same, c.loop-at-test.true, c.min-at-end.ensures, c.len.ensures.value)) c.at-then-at-less.ensures

pub returns-in-Some-clause-some : goal.returns-in-Some-clause-some
returns-in-Some-clause-some c =
    let same = headed_length c.args.blocks.now.blocks c.args.heads.now.heads c.requires.headed in
    found_read c.args.blocks.now.blocks c.loop-at.at c.at-then-at-less.result.now _ c.args.align c.in-Some.start c.requires.gaps
    (omega (arith, same, c.loop-at-test.true, c.min-at-end.ensures, c.len.ensures.value)) c.loop-at.invariant
    c.at-then-at-less.ensures c.in-Some.ensures

pub loop-at-preserved : goal.loop-at-preserved
loop-at-preserved c =
    elim c.if-at-less.branch [
      | then-at-less+in_default w ↦
          none_read c.args.blocks.now.blocks c.loop-at.at _ c.args.align w.at-then-at-less.result.now w.at-then-at-less.ensures
          w.in_default.ensures c.loop-at.invariant
      | else-at-less w ↦
          none_narrow c.args.blocks.now.blocks c.args.heads.now.heads c.loop-at.at c.args.less c.args.align c.at.result
          c.requires.headed c.at.ensures (omega (arith, w.if-at-less.false)) c.loop-at.invariant
    ]

pub returns-clause-none : goal.returns-clause-none
returns-clause-none c at d start low inside =
    let same = headed_length c.args.blocks.now.blocks c.args.heads.now.heads c.requires.headed in
    c.loop-at.invariant at d start
    (omega (arith, low, inside, same, c.loop-at-test.false, c.min-at-end.ensures, c.len.ensures.value)) inside
