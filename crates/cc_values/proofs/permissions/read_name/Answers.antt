use Rattle.cc_values.proofs.NameLemmas.{unnamed}
use Rattle.cc_values.proofs.permissions.read_name.Goals as goal

pub returns-in-Err : goal.returns-in-Err
returns-in-Err c = unnamed _ c.in-Err.ensures.cases.0
