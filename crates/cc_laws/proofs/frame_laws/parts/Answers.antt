use Rattle.cc_io.proofs.LawLemmas.{parts}
use Rattle.cc_laws.proofs.frame_laws.parts.Goals as goal

pub returns : goal.returns
returns g c = parts g.A.Answerer.Answered g.A.Answerer.Ended (g.F.Framing.frame c.args.framing.now) (g.met.F.Framing.is_frame c.args.framing.now)
