use Rattle.cc_bounds.proofs.EncodingLemmas.{encoded}
use Rattle.cc_bounds.proofs.encoding.encoded.Goals as goal

pub storing-requires : goal.storing-requires
storing-requires c =
    encoded c.args.granted c.args.power c.saturating_sub-exponent.result c.t_field-t.result c.b_field-b.result
    c.requires.is_span c.requires.sound c.requires.small c.requires.large c.saturating_sub-exponent.ensures
    c.t_field-t.ensures c.b_field-b.ensures
