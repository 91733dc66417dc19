use Rattle.cc_machine.proofs.TreeLemmas.{Keeps-reached}
use Rattle.cc_machine.proofs.ObjectLawLemmas.{KeepsObjectLaws-reached}
use Rattle.cc_laws.proofs.HeldBytesLemmas.{object-in_pool, held-in_pool}
use Rattle.cc_laws.proofs.machine_laws.held_bytes_fit_the_pool.Goals as goal

pub returns-clause-in_pool : goal.returns-clause-in_pool
returns-clause-in_pool c state pool number slot own object reached =
    object-in_pool state (Keeps-reached state reached) (KeepsObjectLaws-reached state reached) pool number slot own object

pub returns-clause-held : goal.returns-clause-held
returns-clause-held c state pool slot reached =
    held-in_pool state (Keeps-reached state reached) (KeepsObjectLaws-reached state reached) pool slot
