use Rattle.cc_io.proofs.LawLemmas.{stops_begins}
use Rattle.cc_laws.proofs.frame_laws.stops_begins.Goals as goal

pub returns : goal.returns
returns g c = stops_begins g.A.Answerer.Answered g.A.Answerer.Ended (g.F.Framing.frame c.args.framing.now) (g.met.F.Framing.is_frame c.args.framing.now)
