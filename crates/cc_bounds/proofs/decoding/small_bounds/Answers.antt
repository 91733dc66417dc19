use Rattle.cc_bounds.proofs.DecodedTopLemmas.{small_decodes}
use Rattle.cc_bounds.proofs.decoding.small_bounds.Goals as goal

pub returns : goal.returns
returns c =
    small_decodes c.args.fields.now c.decoded_base-base.result c.mantissa_length.result c.args.exponent c.from.result c.from-2.result
    c.decoded_base-base.ensures c.mantissa_length.ensures.fits c.mantissa_length.ensures.top c.requires.is_exponent c.requires.small
    c.from.ensures c.from-2.ensures
