use Rattle.cc_machine.proofs.TreeLemmas.{IsMonotonicTree-reached}
use Rattle.cc_laws.proofs.machine_laws.monotonic_tree.Goals as goal

pub returns : goal.returns
returns c = IsMonotonicTree-reached
