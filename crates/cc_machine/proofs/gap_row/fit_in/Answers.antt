use Rattle.std.proofs.Common.{arith, length, ◌*◌}
use Rattle.cc_machine.proofs.GapRowLemmas.{headed_length, none_at_all, none_in, none_in_group}
use Rattle.cc_machine.proofs.gap_row.fit_in.Goals.{then-group_bound-less+in_default, else-group_bound-less}
use Rattle.cc_machine.proofs.gap_row.fit_in.Goals as goal

pub returns-then-bound-less : goal.returns-then-bound-less
returns-then-bound-less c =
    none_in c.args.blocks.now.blocks (length c.args.blocks.now.blocks) _ c.args.align (omega arith)
    (none_at_all c.args.blocks.now.blocks c.args.heads.now.heads c.args.less c.args.align c.bound.result c.requires.headed
    c.bound.ensures (omega (arith, c.if-bound-less.true)))

pub fit_in_group-requires-clause-few : goal.fit_in_group-requires-clause-few
fit_in_group-requires-clause-few c =
    let same = headed_length c.args.blocks.now.blocks c.args.heads.now.heads c.requires.headed in
    omega (arith, same, c.requires.few)

pub loop-group-preserved : goal.loop-group-preserved
loop-group-preserved c =
    elim c.if-group_bound-less.branch [
      | then-group_bound-less+in_default w ↦ λ at d start low inside.
          w.in_default.ensures.none at d start (omega (arith, low)) inside
      | else-group_bound-less w ↦
          none_in_group c.args.blocks.now.blocks c.args.heads.now.heads c.loop-group.group c.args.less c.args.align
          c.group_bound.result c.requires.headed c.group_bound.ensures (omega (arith, w.if-group_bound-less.false))
          c.loop-group.invariant
    ]

pub returns : goal.returns
returns c =
    let same = headed_length c.args.blocks.now.blocks c.args.heads.now.heads c.requires.headed in
    none_in c.args.blocks.now.blocks (16 * c.loop-group.group) _ c.args.align
    (omega (arith, same, c.loop-group-test.false, c.div_ceil-group-end.ensures, c.len.ensures.value)) c.loop-group.invariant
