use Rattle.std.proofs.Common.{◌≡◌, ◌∙◌, sym, subst}
use Rattle.cc_word.specs.Word.{word_of}
use Rattle.cc_word.specs.declared.fields.Fields.{Fields}
use Rattle.cc_bounds.specs.declared.span.Span.{Span}
use Rattle.cc_bounds.specs.Decoding.{DecodesTo}
use Rattle.std.specs.Prelude.{◌↔◌}
use Rattle.cc_cap.specs.Canonical.{IsCanonical}
use Rattle.cc_ffi.specs.Defects.{IsFirstDefect}
use Rattle.cc_ffi.proofs.DefectLemmas.{none-canonical, first-defect}
use Rattle.cc_ffi.proofs.defect.cheri_cap_defect.Goals as goal

pub returns-clause-canonical : goal.returns-clause-canonical
returns-clause-canonical c =
    let word = c.of_word.result in
    let law = none-canonical (IsCanonical (word_of word.fields)) word.fields word.bounds c.defect.result c.number_of.result c.defect.ensures c.number_of.ensures.number in
    subst (λ n. (c.number_of.result ≡ 0) ↔ IsCanonical n) (c.of_word.ensures.word ∙ c.number.ensures) law

pub returns-clause-first : goal.returns-clause-first
returns-clause-first c fields has span decodes =
    let word = c.of_word.result in
    let same = c.of_word.ensures.only_fields fields (has ∙ sym c.number.ensures) in
    let found = c.of_word.ensures.only_bounds span (subst (λ (f : Fields). DecodesTo f span) same decodes) in
    let first = first-defect (IsCanonical (word_of word.fields)) word.fields word.bounds c.defect.result c.number_of.result c.defect.ensures c.number_of.ensures.number in
    subst (λ (f : Fields). IsFirstDefect f span c.number_of.result) (sym same)
    (subst (λ (s : Span). IsFirstDefect word.fields s c.number_of.result) (sym found) first)
