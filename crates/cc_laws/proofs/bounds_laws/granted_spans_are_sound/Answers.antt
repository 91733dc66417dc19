use Rattle.cc_bounds.proofs.SoundLemmas.{granted-sound}
use Rattle.cc_bounds.proofs.LawLemmas.{same_exponent}
use Rattle.cc_laws.proofs.bounds_laws.granted_spans_are_sound.Goals as goal

pub returns-clause-is_span : goal.returns-clause-is_span
returns-clause-is_span c request granted span h = (granted-sound request granted span h).is_span

pub returns-clause-sound : goal.returns-clause-sound
returns-clause-sound c request granted span h = (granted-sound request granted span h).sound

pub returns-clause-exponent : goal.returns-clause-exponent
returns-clause-exponent c = same_exponent
