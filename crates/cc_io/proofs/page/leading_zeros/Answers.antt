use Rattle.std.proofs.Common.{refl}
use Rattle.cc_io.proofs.DigitLemmas.{counted}
use Rattle.cc_io.proofs.page.leading_zeros.Goals as goal

pub returns-clause-few : goal.returns-clause-few
returns-clause-few c = (counted c.args.number _ c.ranges.number.fits refl).few

pub returns-clause-fits : goal.returns-clause-fits
returns-clause-fits c = (counted c.args.number _ c.ranges.number.fits refl).fits

pub returns-clause-least : goal.returns-clause-least
returns-clause-least c = (counted c.args.number _ c.ranges.number.fits refl).least
