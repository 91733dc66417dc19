use Rattle.std.proofs.Common.{arith}
use Rattle.cc_explain.proofs.RequestLemmas.{long_granule}
use Rattle.cc_explain.proofs.request.granule_of.Goals as goal

pub returns-else-length_of-lt4096 : goal.returns-else-length_of-lt4096
returns-else-length_of-lt4096 c =
    let value = c.length_of.ensures.value in
    let long = c.if-length_of-lt4096.false in
    long_granule c.args.request.now c.args.set.now.granted c.e.result c.requires.is_span c.requires.granted (omega (arith, value, long)) c.e.ensures.computed c.e.ensures.fits
