use Rattle.cc_laws.proofs.DrawingWitnessLemmas.{placed, usage}
use Rattle.cc_laws.proofs.drawings_counterexamples.a_plan_with_its_usage.Goals as goal

pub returns-clause-placed : goal.returns-clause-placed
returns-clause-placed c = placed

pub returns-clause-usage : goal.returns-clause-usage
returns-clause-usage c = usage
