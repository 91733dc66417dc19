use Rattle.cc_laws.proofs.SmallerLemmas.{smaller_fits}
use Rattle.cc_laws.proofs.planner_laws.smaller_objects_fit.Goals as goal

pub returns : goal.returns
returns c = smaller_fits
