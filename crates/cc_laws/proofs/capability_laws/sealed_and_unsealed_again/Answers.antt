use Rattle.cc_laws.proofs.SealingLemmas.{sealed_again, sealed_again_global}
use Rattle.cc_laws.proofs.capability_laws.sealed_and_unsealed_again.Goals as goal

pub returns-clause-permissions : goal.returns-clause-permissions
returns-clause-permissions c = sealed_again

pub returns-clause-global : goal.returns-clause-global
returns-clause-global c = sealed_again_global
