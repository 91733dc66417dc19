use Rattle.cc_ffi.proofs.DigitLemmas.{counted}
use Rattle.cc_ffi.proofs.word_line.digit_count.Goals as goal

pub returns : goal.returns
returns c = counted c.args.number c.max.result c.requires c.max.ensures
