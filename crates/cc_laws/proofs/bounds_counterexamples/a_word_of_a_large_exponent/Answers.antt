use Rattle.cc_laws.proofs.RuleCounterexampleLemmas.{large_exponent}
use Rattle.cc_laws.proofs.bounds_counterexamples.a_word_of_a_large_exponent.Goals as goal

pub returns : goal.returns
returns c = large_exponent
