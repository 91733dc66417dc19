use Rattle.cc_cap.proofs.ReachLemmas.{GrantsNoMore-IsReachable}
use Rattle.cc_laws.proofs.capability_laws.all_that_grants_no_more_is_reached.Goals as goal

pub returns : goal.returns
returns c = GrantsNoMore-IsReachable
