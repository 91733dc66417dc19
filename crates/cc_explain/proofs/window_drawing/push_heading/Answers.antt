use Rattle.std.proofs.Common.{append_assoc, arith}
use Rattle.cc_explain.proofs.window_drawing.push_heading.Goals as goal

-- ---- each piece fits

pub push_decimal-requires : goal.push_decimal-requires
push_decimal-requires c = omega (arith, c.push_digits.ensures.fits, c.requires.room)

pub end_with_hexadecimal-requires : goal.end_with_hexadecimal-requires
end_with_hexadecimal-requires c = omega (arith, c.push_digits.ensures.fits, c.push_decimal.ensures.fits, c.requires.room)

pub returns-clause-fits : goal.returns-clause-fits
returns-clause-fits c = omega (arith, c.push_digits.ensures.fits, c.push_decimal.ensures.fits, c.end_with_hexadecimal.ensures.fits)

pub returns-clause-value : goal.returns-clause-value
returns-clause-value c =
    rw (c.end_with_hexadecimal.ensures.value, c.push_decimal.ensures.value, c.push_digits.ensures.value, c.from.ensures, c.section.ensures.value) (simp append_assoc)
