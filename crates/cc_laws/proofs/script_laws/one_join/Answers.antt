use Rattle.cc_values.proofs.PieceLemmas.{one_join}
use Rattle.cc_laws.proofs.script_laws.one_join.Goals as goal

pub returns : goal.returns
returns c = one_join
