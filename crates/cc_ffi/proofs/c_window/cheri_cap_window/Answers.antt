use Rattle.std.proofs.Common.{◌∙◌, sym, subst}
use Rattle.cc_word.specs.declared.fields.Fields.{Fields}
use Rattle.cc_bounds.specs.Decoding.{DecodesTo}
use Rattle.cc_ffi.specs.Windows.{IsFromTo}
use Rattle.cc_ffi.proofs.WindowLemmas.{own_window}
use Rattle.cc_ffi.proofs.c_window.cheri_cap_window.Goals as goal

pub returns-clause-window : goal.returns-clause-window
returns-clause-window c fields has span address decodes fits =
    let same = c.of_word-decoded.ensures.only_fields fields (has ∙ sym c.number.ensures) in
    let found = c.of_word-decoded.ensures.only_bounds span (subst (λ (f : Fields). DecodesTo f span) same decodes) in
    own_window fields c.of_word-decoded.result.fields span c.of_word-decoded.result.bounds c.of_word-decoded.result.exponent address
    (IsFromTo c.window_of.result.first c.window_of.result.last address) same found c.of_word-decoded.result.is_exponent
    (c.window_of.ensures.window address fits)
