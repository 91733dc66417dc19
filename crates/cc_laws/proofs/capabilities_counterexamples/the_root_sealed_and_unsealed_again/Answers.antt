use Rattle.cc_laws.proofs.SealingLemmas.{local-unseals, root-seals, root-unseals}
use Rattle.cc_laws.proofs.capabilities_counterexamples.the_root_sealed_and_unsealed_again.Goals as goal

pub returns-clause-seals : goal.returns-clause-seals
returns-clause-seals c = root-seals

pub returns-clause-unseals : goal.returns-clause-unseals
returns-clause-unseals c = root-unseals

pub returns-clause-loses_global : goal.returns-clause-loses_global
returns-clause-loses_global c = local-unseals
