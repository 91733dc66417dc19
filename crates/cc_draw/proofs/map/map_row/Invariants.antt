use Rattle.std.proofs.Common.{◌≡◌, ◌<◌, ℕ, length, slice_index}
use Rattle.cc_draw.specs.Map.{TellsCell}
use Rattle.cc_draw.specs.Cells.{cell_of}
use Rattle.cc_draw.proofs.map.map_row.Given as goal

abbrev pub invariant-loop-index : goal.invariant-loop-index
invariant-loop-index l = record {
  count : length l.row ≡ 64;
  tells : (index : ℕ) → index < l.index → TellsCell l.objects (cell_of l.start l.size index) (slice_index l.row index);
}
