use Rattle.cc_laws.proofs.MarginLemmas.{near-represents, quarter-represents}
use Rattle.cc_laws.proofs.bounds_laws.margin_around_bounds.Goals as goal

pub returns-clause-sections : goal.returns-clause-sections
returns-clause-sections c = near-represents

pub returns-clause-bytes : goal.returns-clause-bytes
returns-clause-bytes c = quarter-represents
