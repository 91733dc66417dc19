use Rattle.std.proofs.Common.{append_assoc, arith}
use Rattle.cc_explain.proofs.window_drawing.push_bounds_marks.Goals as goal

-- ---- each piece fits

pub push_decimal-requires : goal.push_decimal-requires
push_decimal-requires c = omega (arith, c.push_mark.ensures.fits, c.requires.room)

pub end_with_hexadecimal-requires : goal.end_with_hexadecimal-requires
end_with_hexadecimal-requires c = omega (arith, c.push_mark.ensures.fits, c.push_decimal.ensures.fits, c.requires.room)

pub push_mark-requires-2 : goal.push_mark-requires-2
push_mark-requires-2 c = omega (arith, c.push_mark.ensures.fits, c.push_decimal.ensures.fits, c.end_with_hexadecimal.ensures.fits, c.requires.room)

pub push_decimal-requires-2 : goal.push_decimal-requires-2
push_decimal-requires-2 c = omega (arith, c.push_mark.ensures.fits, c.push_decimal.ensures.fits, c.end_with_hexadecimal.ensures.fits, c.push_mark-2.ensures.fits, c.requires.room)

pub end_with_hexadecimal-requires-2 : goal.end_with_hexadecimal-requires-2
end_with_hexadecimal-requires-2 c = omega (
  arith,
  c.push_mark.ensures.fits,
  c.push_decimal.ensures.fits,
  c.end_with_hexadecimal.ensures.fits,
  c.push_mark-2.ensures.fits,
  c.push_decimal-2.ensures.fits,
  c.requires.room,
)

pub returns-clause-fits : goal.returns-clause-fits
returns-clause-fits c = omega (
  arith,
  c.push_mark.ensures.fits,
  c.push_decimal.ensures.fits,
  c.end_with_hexadecimal.ensures.fits,
  c.push_mark-2.ensures.fits,
  c.push_decimal-2.ensures.fits,
  c.end_with_hexadecimal-2.ensures.fits,
)

pub returns-clause-value : goal.returns-clause-value
returns-clause-value c =
    rw (
      c.end_with_hexadecimal-2.ensures.value,
      c.push_decimal-2.ensures.value,
      c.push_mark-2.ensures.value,
      c.end_with_hexadecimal.ensures.value,
      c.push_decimal.ensures.value,
      c.push_mark.ensures.value,
      c.from.ensures,
      c.units_to-base.ensures,
      c.units_to-top.ensures,
    ) (simp append_assoc)
