use Rattle.cc_io.proofs.FrameLemmas.{one_cut}
use Rattle.cc_laws.proofs.frame_laws.one_cut.Goals as goal

pub returns : goal.returns
returns c = one_cut
