use Rattle.cc_laws.proofs.ListingLemmas.{one_listing}
use Rattle.cc_laws.proofs.decoding_laws.one_listing.Goals as goal

pub returns : goal.returns
returns c = one_listing
