use Rattle.cc_machine.proofs.TreeLemmas.{HasSealingAuthority-reached}
use Rattle.cc_laws.proofs.machine_laws.sealing_authority.Goals as goal

pub returns : goal.returns
returns c = HasSealingAuthority-reached
