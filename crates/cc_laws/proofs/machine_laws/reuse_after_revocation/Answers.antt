use Rattle.cc_machine.proofs.ObjectLawLemmas.{KeepsObjectLaws-reached}
use Rattle.cc_machine.proofs.ObjectConfinementLemmas.{reuses}
use Rattle.cc_laws.proofs.machine_laws.reuse_after_revocation.Goals as goal

pub returns : goal.returns
returns c state reached = reuses state (KeepsObjectLaws-reached state reached)
