use Rattle.cc_word.proofs.LaneLemmas.{length-value_lanes, values_are}
use Rattle.cc_word.proofs.kernels.values_of_digits.Goals as goal

pub returns-clause-all : goal.returns-clause-all
returns-clause-all c = length-value_lanes 32 c.args.text c.fits-text.0

pub returns-clause-values : goal.returns-clause-values
returns-clause-values c = values_are 32 c.args.text c.fits-text.0 c.fits-text.1
