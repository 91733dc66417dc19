use Rattle.cc_word.proofs.LaneLemmas.{digits_are}
use Rattle.cc_word.proofs.kernels.digits_of_values.Goals as goal

pub returns : goal.returns
returns c = digits_are 16 c.args.values c.fits-values.0 c.requires
