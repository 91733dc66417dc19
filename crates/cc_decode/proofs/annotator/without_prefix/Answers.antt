use Rattle.std.proofs.Common.{codes, inr, refl}
use Rattle.cc_decode.proofs.annotator.without_prefix.Goals as goal

pub returns-in-Some-clause-parts : goal.returns-in-Some-clause-parts
returns-in-Some-clause-parts c = (codes "0x", inr refl, c.in-Some.ensures.found)
