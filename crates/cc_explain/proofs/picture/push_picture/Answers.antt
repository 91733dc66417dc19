use Rattle.std.proofs.Common.{◌≡◌, ◌++◌, ℕ, List, arith, codes, refl}
use Rattle.cc_io.specs.Numbered.{line_with_hexadecimal}
use Rattle.cc_explain.specs.Explanation.{cell_size, row_text, ruler_text}
use Rattle.cc_explain.proofs.TextLemmas.{six}
use Rattle.cc_explain.proofs.picture.push_picture.Goals as goal

-- ---- each piece fits

pub push_ruler-requires-clause-room : goal.push_ruler-requires-clause-room
push_ruler-requires-clause-room c = omega (arith, c.end_with_hexadecimal.ensures.fits, c.requires.room)

pub push_row-requires-clause-room : goal.push_row-requires-clause-room
push_row-requires-clause-room c = omega (arith, c.end_with_hexadecimal.ensures.fits, c.push_ruler.ensures.fits, c.requires.room)

pub push_row-requires-2-clause-room : goal.push_row-requires-2-clause-room
push_row-requires-2-clause-room c = omega (arith, c.end_with_hexadecimal.ensures.fits, c.push_ruler.ensures.fits, c.push_row.ensures.fits, c.requires.room)

pub push_row-requires-3-clause-room : goal.push_row-requires-3-clause-room
push_row-requires-3-clause-room c = omega (arith, c.end_with_hexadecimal.ensures.fits, c.push_ruler.ensures.fits, c.push_row.ensures.fits, c.push_row-2.ensures.fits, c.requires.room)

pub push_row-requires-4-clause-room : goal.push_row-requires-4-clause-room
push_row-requires-4-clause-room c = omega (
  arith,
  c.end_with_hexadecimal.ensures.fits,
  c.push_ruler.ensures.fits,
  c.push_row.ensures.fits,
  c.push_row-2.ensures.fits,
  c.push_row-3.ensures.fits,
  c.requires.room,
)

pub returns : goal.returns
returns c =
    let steps = c.args.steps.now in
    let rows = c.args.rows.now in
    let cells : List ℕ = line_with_hexadecimal (codes "picture   the window, in cells of ") (cell_size steps) (codes " bytes, 2^(E+8)") in
    let with_cells : c.end_with_hexadecimal.new.page ≡ c.args.text.now ++ cells = rw (c.end_with_hexadecimal.ensures.value, c.cell_size.ensures.value) refl in
    let with_ruler : c.push_ruler.new.text ≡ c.end_with_hexadecimal.new.page ++ ruler_text steps.first_section = rw (c.push_ruler.ensures.value, c.from.ensures) refl in
    six c.args.text.now cells (ruler_text steps.first_section) (row_text (codes "bytes     ") rows.bytes) (row_text (codes "base      ") rows.base)
    (row_text (codes "top       ") rows.top) (row_text (codes "address   ") rows.address) _ _ _ _ _ _
    with_cells with_ruler c.push_row.ensures.value c.push_row-2.ensures.value c.push_row-3.ensures.value c.push_row-4.ensures.value
