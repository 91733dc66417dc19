use Rattle.std.proofs.Common.{arith}
use Rattle.cc_explain.proofs.explained_steps.push_section.Goals as goal

-- ---- each piece fits

pub returns-clause-fits : goal.returns-clause-fits
returns-clause-fits c = omega (arith, c.end_with_hexadecimal.ensures.fits)
