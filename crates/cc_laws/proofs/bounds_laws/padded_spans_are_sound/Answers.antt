use Rattle.cc_bounds.proofs.ComputingLemmas.{padded-sound}
use Rattle.cc_bounds.proofs.LawLemmas.{padded_law}
use Rattle.cc_laws.proofs.bounds_laws.padded_spans_are_sound.Goals as goal

pub returns-clause-sound : goal.returns-clause-sound
returns-clause-sound c = padded-sound

pub returns-clause-enough : goal.returns-clause-enough
returns-clause-enough c size fits = (padded_law size fits).enough

pub returns-clause-little : goal.returns-clause-little
returns-clause-little c size fits = (padded_law size fits).little

pub returns-clause-fits : goal.returns-clause-fits
returns-clause-fits c size fits = (padded_law size fits).fits
