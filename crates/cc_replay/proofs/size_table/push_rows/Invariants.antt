use Rattle.std.proofs.Common.{◌≡◌, ◌≤◌, ◌+◌, ◌*◌, ◌++◌, length}
use Rattle.cc_replay.specs.SizeTable.{all_sizes, more_sizes}
use Rattle.cc_replay.proofs.size_table.push_rows.Given as goal

abbrev pub invariant-rows : goal.invariant-rows
invariant-rows g l = record {
  text : l.page ++ more_sizes l.format l.before l.power l.rest ≡ l.initial.page ++ all_sizes l.format l.sizes;
  fits : length l.page + 608 * length l.rest ≤ length l.initial.page + 39000;
  short : length l.before ≤ 2;
  place : l.power + length l.rest ≡ 64;
}

abbrev pub decreases-rows : goal.decreases-rows
decreases-rows g l = length l.rest
