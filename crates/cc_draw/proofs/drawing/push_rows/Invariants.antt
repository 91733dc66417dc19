use Rattle.std.proofs.Common.{◌≡◌, ◌≤◌, ◌+◌, ◌*◌, ◌++◌, length}
use Rattle.cc_draw.specs.Drawing.{rows_text}
use Rattle.cc_draw.proofs.drawing.push_rows.Given as goal

abbrev pub invariant-loop-row : goal.invariant-loop-row
invariant-loop-row l = record {
  text : l.page ≡ l.initial.page ++ rows_text l.layout l.row;
  room : length l.page ≤ 2500 + 260 * l.row;
}
