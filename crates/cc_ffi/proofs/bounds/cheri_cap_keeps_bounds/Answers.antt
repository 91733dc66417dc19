use Rattle.std.proofs.Common.{◌≡◌, IsTrue, ◌↔◌, ◌∙◌, sym, subst}
use Rattle.cc_word.specs.declared.fields.Fields.{Fields}
use Rattle.cc_bounds.specs.declared.span.Span.{Span}
use Rattle.cc_bounds.specs.Window.{IsRepresentable}
use Rattle.cc_bounds.specs.Decoding.{stored_exponent, DecodesTo, SharesBoundsFields}
use Rattle.cc_ffi.proofs.bounds.cheri_cap_keeps_bounds.Goals as goal

pub returns-clause-decodes : goal.returns-clause-decodes
returns-clause-decodes c fields has =
    subst
    (λ (own : Fields). (other : Fields) (span : Span) → SharesBoundsFields own other → other.address ≡ c.args.address
    → DecodesTo own span → (IsTrue c.keeps_bounds.result ↔ DecodesTo other span))
    (sym (c.unpack.ensures.only fields (has ∙ sym c.number.ensures))) c.keeps_bounds.ensures.decodes

pub returns-clause-window : goal.returns-clause-window
returns-clause-window c fields has =
    subst
    (λ (own : Fields). (span : Span) → DecodesTo own span
    → (IsTrue c.keeps_bounds.result ↔ IsRepresentable span.base (stored_exponent own) c.args.address))
    (sym (c.unpack.ensures.only fields (has ∙ sym c.number.ensures))) c.keeps_bounds.ensures.window
