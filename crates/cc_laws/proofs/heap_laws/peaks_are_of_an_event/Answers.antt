use Rattle.cc_laws.proofs.PeakLemmas.{has_peaks}
use Rattle.cc_laws.proofs.heap_laws.peaks_are_of_an_event.Goals as goal

pub returns : goal.returns
returns c = has_peaks
