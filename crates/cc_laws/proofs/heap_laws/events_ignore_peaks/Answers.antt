use Rattle.cc_laws.proofs.PeaklessLemmas.{ignores_peaks}
use Rattle.cc_laws.proofs.heap_laws.events_ignore_peaks.Goals as goal

pub returns : goal.returns
returns c = ignores_peaks
