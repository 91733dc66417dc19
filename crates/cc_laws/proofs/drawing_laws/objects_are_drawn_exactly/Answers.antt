use Rattle.cc_laws.proofs.DrawnPlanLemmas.{drawn_exactly}
use Rattle.cc_laws.proofs.drawing_laws.objects_are_drawn_exactly.Goals as goal

pub returns : goal.returns
returns c plan placed = drawn_exactly plan placed
