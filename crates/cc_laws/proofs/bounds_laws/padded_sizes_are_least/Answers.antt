use Rattle.cc_laws.proofs.PaddedLemmas.{sound-padded_size}
use Rattle.cc_laws.proofs.bounds_laws.padded_sizes_are_least.Goals as goal

pub returns-clause-aligned : goal.returns-clause-aligned
returns-clause-aligned c span size is_span sound le = (sound-padded_size span size is_span sound le).aligned

pub returns-clause-enough : goal.returns-clause-enough
returns-clause-enough c span size is_span sound le = (sound-padded_size span size is_span sound le).enough
