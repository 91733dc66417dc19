use Rattle.cc_laws.proofs.ChartedRunLemmas.{charts_show_runs}
use Rattle.cc_laws.proofs.charting_laws.charts_are_of_all_events.Goals as goal

pub returns : goal.returns
returns c = charts_show_runs
