use Rattle.cc_bounds.proofs.LawLemmas.{decoded_law}
use Rattle.cc_laws.proofs.bounds_laws.sound_spans_are_those_decoded.Goals as goal

pub returns : goal.returns
returns c = decoded_law
