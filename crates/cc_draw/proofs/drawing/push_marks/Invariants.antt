use Rattle.std.proofs.Common.{◌≡◌, ◌≤◌, ◌+◌, ◌*◌, ◌++◌, length}
use Rattle.cc_draw.specs.Drawing.{marks_text}
use Rattle.cc_draw.proofs.drawing.push_marks.Given as goal

abbrev pub invariant-loop-mark : goal.invariant-loop-mark
invariant-loop-mark l = record {
  text : l.page ≡ l.initial.page ++ marks_text l.layout l.mark;
  fits : length l.page ≤ length l.initial.page + 193 * l.mark;
}
