use Rattle.std.proofs.Common.{◌∙◌}
use Rattle.cc_word.proofs.LaneLemmas.{half_picked}
use Rattle.cc_word.proofs.kernels.write_half.Goals as goal

pub returns : goal.returns
returns c = c.digits_of_values.ensures ∙ half_picked c.args.half
