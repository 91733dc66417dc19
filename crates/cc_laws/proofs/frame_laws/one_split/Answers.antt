use Rattle.cc_io.proofs.SplitLemmas.{one_split}
use Rattle.cc_laws.proofs.frame_laws.one_split.Goals as goal

pub returns : goal.returns
returns c = one_split
