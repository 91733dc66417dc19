use Rattle.cc_laws.proofs.DrawingCounterexampleLemmas.{in_layout-breaks, some-breaks}
use Rattle.cc_laws.proofs.drawings_counterexamples.objects_that_are_not_drawn_exactly.Goals as goal

pub returns-clause-some : goal.returns-clause-some
returns-clause-some c = some-breaks

pub returns-clause-in_layout : goal.returns-clause-in_layout
returns-clause-in_layout c = in_layout-breaks
