use Rattle.cc_laws.proofs.ScaleLemmas.{least_count, least_step, no_cut, top_reaches}
use Rattle.cc_laws.proofs.chart_laws.axes_reach_all_bytes.Goals as goal

pub returns-clause-reaches : goal.returns-clause-reaches
returns-clause-reaches c = top_reaches

pub returns-clause-step : goal.returns-clause-step
returns-clause-step c = least_step

pub returns-clause-steps : goal.returns-clause-steps
returns-clause-steps c = least_count

pub returns-clause-curves : goal.returns-clause-curves
returns-clause-curves c = no_cut
