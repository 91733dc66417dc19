use Rattle.std.proofs.Common.{◌≡◌, ◌∙◌, ap, subst}
use Rattle.cc_bounds.specs.declared.span.Span.{Span}
use Rattle.cc_bounds.proofs.GranuleLemmas.{granted_same}
use Rattle.cc_cap.specs.Canonical.{IsWordOf}
use Rattle.cc_cap.specs.Capability.{Capability}
use Rattle.cc_explain.specs.Request.{granted_capability}
use Rattle.cc_explain.proofs.request.word_of.Goals as goal

pub returns : goal.returns
returns c =
    let request : Span = c.args.request.now in
    let told = c.derived.ensures in
    let alike = granted_same request told.0 c.args.granted.now told.1 c.requires.granted in
    let made : c.in-Ok.cap ≡ granted_capability request told.0 = cc (told.2, c.in-Ok.is) in
    let same : c.in-Ok.cap ≡ granted_capability request c.args.granted.now = made ∙ ap (λ (granted : Span). granted_capability request granted) alike in
    subst (λ (cap : Capability). IsWordOf cap c.word.result) same c.word.ensures.word
