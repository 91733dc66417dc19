use Rattle.cc_laws.proofs.ByteConfinementLemmas.{within-given}
use Rattle.cc_laws.proofs.machine_laws.confinement_in_bytes.Goals as goal

pub returns : goal.returns
returns c = within-given
