use Rattle.std.proofs.Common.{◌∙◌}
use Rattle.cc_ffi.proofs.FieldsLemmas.{packed_again}
use Rattle.cc_ffi.proofs.c_words.cheri_cap_pack.Goals as goal

pub returns-clause-unpacked : goal.returns-clause-unpacked
returns-clause-unpacked c high low high_fits low_fits is =
    c.halves.ensures ∙ c.pack.ensures ∙ packed_again c.args.given c.cut.result high low high_fits low_fits c.cut.ensures is
