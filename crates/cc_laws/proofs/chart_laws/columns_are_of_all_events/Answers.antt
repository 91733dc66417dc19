use Rattle.cc_laws.proofs.ChartLemmas.{shows_all}
use Rattle.cc_laws.proofs.chart_laws.columns_are_of_all_events.Goals as goal

pub returns : goal.returns
returns c = shows_all
