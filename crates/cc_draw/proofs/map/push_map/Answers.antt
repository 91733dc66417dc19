use Rattle.std.proofs.Common.{◌≡◌, ◌∙◌, ℕ, ap, refl, subst}
use Rattle.std.specs.Int.{div_ceil}
use Rattle.cc_bounds.specs.Span.{length_of}
use Rattle.cc_draw.specs.Map.{AreMapRows}
use Rattle.cc_draw.specs.Cells.{cell_bytes, cell_count}
use Rattle.cc_draw.proofs.map.push_map.Goals as goal

pub returns : goal.returns
returns c =
    let told = c.push_rows.ensures in
    let objects = c.args.objects.now in
    let bytes : ℕ = length_of c.args.pool.now in
    let size : ℕ = c.cells_for-size.result.0 in
    let cells : ℕ = c.cells_for-size.result.1 in
    let size_is : size ≡ cell_bytes 1024 bytes = c.cells_for-size.ensures.size ∙ ap (cell_bytes 1024) c.len.ensures in
    let cells_is : cells ≡ cell_count 1024 bytes = c.cells_for-size.ensures.count ∙ ap (cell_count 1024) c.len.ensures in
    record {
      rows = told.0;
      are_rows = subst (λ (n : ℕ). AreMapRows objects n (div_ceil (cell_count 1024 bytes) 64) c.args.pool.now.base (cell_count 1024 bytes) told.0) size_is
          (subst (λ (n : ℕ). AreMapRows objects size (div_ceil n 64) c.args.pool.now.base n told.0) cells_is
          (subst (λ (n : ℕ). AreMapRows objects size (div_ceil cells 64) n cells told.0) c.from.ensures told.1));
      lines = rw (told.2, c.end_with_hexadecimal.ensures.value, c.requires.empty, size_is) refl;
    }
