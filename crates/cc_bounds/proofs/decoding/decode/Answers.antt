use Rattle.cc_bounds.proofs.DecodedSpanLemmas.{word_representable}
use Rattle.cc_bounds.proofs.decoding.decode.Goals as goal

pub returns-clause-representable : goal.returns-clause-representable
returns-clause-representable c = word_representable c.args.fields.now _ c.decode_with.ensures.decodes
