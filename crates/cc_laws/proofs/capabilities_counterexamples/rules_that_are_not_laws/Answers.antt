use Rattle.cc_laws.proofs.RuleCounterexampleLemmas.{calls-break, monotonic-breaks, two_calls-break, under-breaks}
use Rattle.cc_laws.proofs.capabilities_counterexamples.rules_that_are_not_laws.Goals as goal

pub returns-clause-monotonic : goal.returns-clause-monotonic
returns-clause-monotonic c = monotonic-breaks

pub returns-clause-under : goal.returns-clause-under
returns-clause-under c = under-breaks

pub returns-clause-call : goal.returns-clause-call
returns-clause-call c = calls-break

pub returns-clause-calls : goal.returns-clause-calls
returns-clause-calls c = two_calls-break
