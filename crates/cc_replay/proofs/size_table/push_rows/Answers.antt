use Rattle.std.proofs.Common.{ap, arith, length, length-append, rules}
use Rattle.cc_replay.proofs.size_table.push_rows.Goals as goal

pub push_row-requires : goal.push_row-requires
push_row-requires g c = (
  search rules,
  omega (
    arith,
    ap length c.in-Some.ensures.cases.0,
    ap length c.push.ensures,
    length-append c.rows.page c.rows.before.now,
    c.rows.invariant.fits,
    c.rows.invariant.short,
    c.requires,
  ),
)
