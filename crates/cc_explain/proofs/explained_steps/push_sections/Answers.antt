use Rattle.std.proofs.Common.{arith}
use Rattle.cc_explain.proofs.explained_steps.push_sections.Goals as goal

-- ---- each piece fits

pub push_decimal-requires-2 : goal.push_decimal-requires-2
push_decimal-requires-2 c = omega (arith, c.push_decimal.ensures.fits, c.requires.room)

pub end_with_decimal-requires : goal.end_with_decimal-requires
end_with_decimal-requires c = omega (arith, c.push_decimal.ensures.fits, c.push_decimal-2.ensures.fits, c.requires.room)

pub returns-clause-fits : goal.returns-clause-fits
returns-clause-fits c = omega (arith, c.push_decimal.ensures.fits, c.push_decimal-2.ensures.fits, c.end_with_decimal.ensures.fits)
