use Rattle.cc_laws.proofs.PackingLemmas.{held_bytes-fit}
use Rattle.cc_laws.proofs.planner_laws.held_bytes_fit_the_pool.Goals as goal

pub returns : goal.returns
returns c plan pool within disjoint is = held_bytes-fit plan within disjoint pool is
