use Rattle.std.proofs.Common.{refl}
use Rattle.std.specs.Fmt.{digits}
use Rattle.cc_decode.proofs.decoder.unfinished_refusal.Goals as goal

pub returns-in-Json-clause-value : goal.returns-in-Json-clause-value
unfolding digits
returns-in-Json-clause-value c = rw c.in-Json.is refl
