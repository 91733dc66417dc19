use Rattle.std.proofs.Common.{◌≡◌, arith, length, rules}
use Rattle.cc_replay.specs.Rows.{table_end, table_heading}
use Rattle.cc_replay.specs.SizeTable.{all_sizes, any_size}
use Rattle.cc_replay.proofs.RowLemmas.{headed}
use Rattle.cc_replay.proofs.size_table.push_sizes.Goals as goal

pub push_rows-requires : goal.push_rows-requires
push_rows-requires g c =
    let six : length c.size_rows.result ≡ 6 = search rules in
    (search rules, omega (arith, c.push_heading.ensures.fits, six, c.requires))

pub push-requires : goal.push-requires
push-requires g c =
    let six : length c.size_rows.result ≡ 6 = search rules in
    (search rules, omega (arith, c.push_heading.ensures.fits, c.push_rows.ensures.fits, c.end_of.ensures.fits, six, c.requires))

pub returns : goal.returns
returns g c =
    rw (c.push.ensures, c.end_of.ensures.value, c.push_rows.ensures.value, c.push_heading.ensures.value, c.size_rows.ensures)
    (headed c.args.page.now (table_heading c.args.format any_size) (all_sizes c.args.format c.args.sizes.now) (table_end c.args.format))
