use Rattle.std.proofs.Common.{◌≡◌, IsTrue, ◌↔◌, subst, ℕ}
use Rattle.cc_bounds.specs.Span.{IsSpan}
use Rattle.cc_bounds.specs.declared.span.Span.{Span}
use Rattle.cc_bounds.specs.Granule.{exponent_of}
use Rattle.cc_bounds.specs.Window.{IsRepresentable, Represents}
use Rattle.cc_bounds.proofs.SoundDecodingLemmas.{represents-computed, represents-decodes, inside-Represents}
use Rattle.cc_bounds.proofs.window.represents.Goals as goal

-- the result, for the span of the set
window : (own span : Span) (e address : ℕ) (answer : Type 0) → own ≡ span → e ≡ exponent_of span → IsSpan span
    → answer ↔ IsRepresentable own.base e address → answer ↔ Represents span address
window own span e address answer is_span is_e span_is h =
    let law = represents-computed span address span_is in
    let computed = subst (λ (n : ℕ). answer ↔ IsRepresentable span.base n address) is_e
    (subst (λ (s : Span). answer ↔ IsRepresentable s.base e address) is_span h) in
    (λ yes. law.0 (computed.0 yes), λ represents. computed.1 (law.1 represents))

pub returns-clause-window : goal.returns-clause-window
returns-clause-window c =
    window c.granted.result c.args.set.now.granted c.e.result c.args.address (IsTrue c.is_representable.result) c.granted.ensures.granted
    c.e.ensures.computed c.granted.ensures.is_span c.is_representable.ensures

pub returns-clause-decodes : goal.returns-clause-decodes
returns-clause-decodes c fields has is =
    let span = c.args.set.now.granted in
    let h = window c.granted.result span c.e.result c.args.address (IsTrue c.is_representable.result) c.granted.ensures.granted
    c.e.ensures.computed c.granted.ensures.is_span c.is_representable.ensures in
    represents-decodes span fields c.args.address (IsTrue c.is_representable.result) c.granted.ensures.is_span c.granted.ensures.sound
    has is h

pub returns-clause-inside : goal.returns-clause-inside
returns-clause-inside c from to =
    let span = c.args.set.now.granted in
    let h = window c.granted.result span c.e.result c.args.address (IsTrue c.is_representable.result) c.granted.ensures.granted
    c.e.ensures.computed c.granted.ensures.is_span c.is_representable.ensures in
    h.1 (inside-Represents span c.args.address c.granted.ensures.is_span c.granted.ensures.sound from to)
