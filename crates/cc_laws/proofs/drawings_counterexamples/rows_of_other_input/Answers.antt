use Rattle.cc_laws.proofs.DrawingCounterexampleLemmas.{error-breaks, row-breaks, rows-break}
use Rattle.cc_laws.proofs.drawings_counterexamples.rows_of_other_input.Goals as goal

pub returns-clause-row : goal.returns-clause-row
returns-clause-row c = row-breaks

pub returns-clause-rows : goal.returns-clause-rows
returns-clause-rows c = rows-break

pub returns-clause-error : goal.returns-clause-error
returns-clause-error c = error-breaks
