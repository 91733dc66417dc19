use Rattle.cc_laws.proofs.DrawingWitnessLemmas.{listing}
use Rattle.cc_laws.proofs.drawings_counterexamples.a_listing_of_a_line.Goals as goal

pub returns : goal.returns
returns c = listing
