use Rattle.cc_laws.proofs.LargerRequestLemmas.{granted-within, padded-grows, padded-twice}
use Rattle.cc_laws.proofs.bounds_laws.larger_requests_are_granted_more.Goals as goal

pub returns-clause-within : goal.returns-clause-within
returns-clause-within c = granted-within

pub returns-clause-padded : goal.returns-clause-padded
returns-clause-padded c = padded-grows

pub returns-clause-twice : goal.returns-clause-twice
returns-clause-twice c = padded-twice
