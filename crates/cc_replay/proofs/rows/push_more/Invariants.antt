use Rattle.std.proofs.Common.{◌≡◌, ◌≤◌, ◌+◌, ◌*◌, ◌++◌, length}
use Rattle.cc_replay.specs.Rows.{more_items, table_rows}
use Rattle.cc_replay.proofs.rows.push_more.Given as goal

abbrev pub invariant-rows : goal.invariant-rows
invariant-rows g l = record {
  text : l.page ++ more_items l.part (table_rows l.rest) ≡ l.initial.page ++ more_items l.part (table_rows l.rows);
  fits : length l.page + 100 * length l.rest ≤ length l.initial.page + 100 * length l.rows;
}

abbrev pub decreases-rows : goal.decreases-rows
decreases-rows g l = length l.rest
