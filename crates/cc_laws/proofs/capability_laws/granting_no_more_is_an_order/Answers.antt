use Rattle.cc_cap.proofs.DerivationLemmas.{GrantsNoMore-itself, GrantsNoMore-chain}
use Rattle.cc_laws.proofs.capability_laws.granting_no_more_is_an_order.Goals as goal

pub returns-clause-itself : goal.returns-clause-itself
returns-clause-itself c = GrantsNoMore-itself

pub returns-clause-chain : goal.returns-clause-chain
returns-clause-chain c = GrantsNoMore-chain
