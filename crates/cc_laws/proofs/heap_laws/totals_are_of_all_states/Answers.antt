use Rattle.cc_laws.proofs.HistoryLemmas.{has_totals}
use Rattle.cc_laws.proofs.heap_laws.totals_are_of_all_states.Goals as goal

pub returns : goal.returns
returns c = has_totals
