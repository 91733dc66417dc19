use Rattle.cc_laws.proofs.ScriptWitnessLemmas.{line-breaks}
use Rattle.cc_laws.proofs.scripts_counterexamples.trailing_bytes.Goals as goal

pub returns : goal.returns
returns c = line-breaks
