use Rattle.cc_machine.proofs.ObjectLawLemmas.{KeepsObjectLaws-reached}
use Rattle.cc_laws.proofs.machine_laws.disjoint_objects.Goals as goal

pub returns : goal.returns
returns c state reached = (KeepsObjectLaws-reached state reached).disjoint
