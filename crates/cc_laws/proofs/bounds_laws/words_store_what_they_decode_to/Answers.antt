use Rattle.cc_bounds.proofs.StoredLemmas.{stored_law}
use Rattle.cc_laws.proofs.bounds_laws.words_store_what_they_decode_to.Goals as goal

pub returns : goal.returns
returns c = stored_law
