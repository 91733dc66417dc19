use Rattle.cc_bounds.proofs.DecodedTopLemmas.{large_decodes}
use Rattle.cc_bounds.proofs.decoding.large_bounds.Goals as goal

pub returns : goal.returns
returns c =
    large_decodes c.args.fields.now c.mantissa_length.result c.args.exponent c.base_mantissa-mantissa.result c.from-end.result
    c.mantissa_length.ensures.fits c.mantissa_length.ensures.top c.requires.is_exponent c.requires.large
    c.base_mantissa-mantissa.ensures c.from-end.ensures
