use Rattle.cc_io.proofs.LawLemmas.{one_on_page}
use Rattle.cc_laws.proofs.frame_laws.one_on_page.Goals as goal

pub returns : goal.returns
returns g c = one_on_page g.A.Answerer.Answered
