use Rattle.std.proofs.Common.{refl}
use Rattle.cc_cap.proofs.BoundsLemmas.{root-IsCapability}
use Rattle.cc_laws.proofs.RuleCounterexampleLemmas.{root-rebuilds}
use Rattle.cc_laws.proofs.capabilities_counterexamples.the_root_rebuilt.Goals as goal

pub returns-clause-capability : goal.returns-clause-capability
returns-clause-capability c = root-IsCapability

pub returns-clause-unsealed : goal.returns-clause-unsealed
returns-clause-unsealed c = refl

pub returns-clause-rebuilds : goal.returns-clause-rebuilds
returns-clause-rebuilds c = root-rebuilds
