use Rattle.std.proofs.Common.{◌∙◌, sym, subst}
use Rattle.cc_word.specs.declared.fields.Fields.{Fields}
use Rattle.cc_bounds.specs.Decoding.{DecodesTo}
use Rattle.cc_ffi.specs.Numbers.{number_in}
use Rattle.cc_ffi.proofs.MeasureLemmas.{found_length}
use Rattle.cc_ffi.proofs.measures.cheri_cap_word_length.Goals as goal

pub returns : goal.returns
returns c fields has span decodes =
    let same = c.unpack.ensures.only fields (has ∙ sym c.number.ensures) in
    let found = c.decode-span.ensures.only span (subst (λ (f : Fields). DecodesTo f span) same decodes) in
    found_length span c.decode-span.result fields c.from.result (number_in c.halves.result) decodes found c.from.ensures c.halves.ensures
