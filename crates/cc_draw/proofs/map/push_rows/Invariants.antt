use Rattle.std.proofs.Common.{◌≡◌, ◌≤◌, ◌+◌, ◌*◌, ◌^◌, ◌++◌, ℕ, List, length}
use Rattle.std.specs.Int.{div_ceil}
use Rattle.cc_draw.specs.Map.{AreMapRows}
use Rattle.cc_draw.proofs.map.push_rows.Given as goal

abbrev pub invariant-rows : goal.invariant-rows
invariant-rows l = record {
  more : (rest : List ℕ) → AreMapRows l.objects l.size l.rows_left l.first l.left rest
      → (whole : List ℕ) × AreMapRows l.objects l.size (div_ceil l.cells 64) l.start l.cells whole × (l.text ++ rest ≡ l.initial.text ++ whole);
  room : length l.text + 120 * l.rows_left ≤ 2200;
  ends : l.first + 2 ^ 60 * l.rows_left ≤ 2 ^ 65;
}

abbrev pub decreases-rows : goal.decreases-rows
decreases-rows l = l.rows_left
