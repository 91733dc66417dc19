use Rattle.std.proofs.Common.{◌∙◌, sym}
use Rattle.cc_ffi.proofs.MeasureLemmas.{granule_with_ie}
use Rattle.cc_ffi.proofs.measures.cheri_cap_word_granule.Goals as goal

pub returns-then-fields-clause-stored : goal.returns-then-fields-clause-stored
returns-then-fields-clause-stored c fields has span stores =
    let same = c.unpack-fields.ensures.only fields (has ∙ sym c.number.ensures) in
    granule_with_ie fields c.unpack-fields.result span c.exponent.result same c.if-fields.true c.exponent.ensures stores
