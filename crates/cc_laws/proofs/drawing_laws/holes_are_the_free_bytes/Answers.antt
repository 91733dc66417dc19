use Rattle.cc_laws.proofs.DrawnPlanLemmas.{free_counted}
use Rattle.cc_laws.proofs.drawing_laws.holes_are_the_free_bytes.Goals as goal

pub returns : goal.returns
returns c slots plan usage placed is = free_counted slots plan usage placed is
