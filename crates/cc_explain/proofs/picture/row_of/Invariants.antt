use Rattle.std.proofs.Common.{◌≡◌, ◌≤◌, ◌<◌, ℕ, length, slice_index}
use Rattle.cc_bounds.specs.declared.span.Span.{Span}
use Rattle.cc_bounds.specs.Span.{SharesByte}
use Rattle.cc_explain.specs.Picture.{blank, window_cell}
use Rattle.cc_explain.proofs.picture.row_of.Given as goal

abbrev pub invariant-loop-index : goal.invariant-loop-index
invariant-loop-index l =
    let shown : Span = record { base = l.stretch.first; top = l.stretch.end } in
    record {
      count : length l.row ≡ 64;
      marked : (index : ℕ) → index < l.index → SharesByte (window_cell l.start l.size index) shown → slice_index l.row index ≡ l.mark;
      unmarked : (index : ℕ) → index < l.index → (¬ SharesByte (window_cell l.start l.size index) shown) → slice_index l.row index ≡ blank;
      rest : (index : ℕ) → l.index ≤ index → index < 64 → slice_index l.row index ≡ blank;
    }
