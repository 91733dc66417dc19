use Rattle.std.proofs.Common.{◌≡◌, ◌≤◌, ◌+◌, ◌*◌, ◌++◌, length}
use Rattle.cc_draw.specs.Drawing.{parts_text, row_count}
use Rattle.cc_draw.proofs.drawing.push_object.Given as goal

abbrev pub invariant-rows : goal.invariant-rows
invariant-rows l = record {
  text : l.page ++ parts_text l.layout.width l.first l.end l.number l.span l.rows_left l.row
      ≡ l.initial.page ++ parts_text l.layout.width l.first l.end l.number l.span (row_count l.layout) 0;
  room : length l.page ≤ length l.initial.page + 300 * l.row;
  few : l.row + l.rows_left ≤ 16;
}

abbrev pub decreases-rows : goal.decreases-rows
decreases-rows l = l.rows_left
