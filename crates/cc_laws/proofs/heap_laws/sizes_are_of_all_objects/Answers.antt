use Rattle.cc_laws.proofs.MadeLemmas.{has_sizes}
use Rattle.cc_laws.proofs.heap_laws.sizes_are_of_all_objects.Goals as goal

pub returns : goal.returns
returns c = has_sizes
