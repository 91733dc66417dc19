use Rattle.std.proofs.Common.{◌≡◌, ℕ, ◌+◌, ◌-◌, arith, subst, sym}
use Rattle.cc_bounds.specs.Granule.{IsGranted}
use Rattle.cc_bounds.specs.declared.span.Span.{Span}
use Rattle.cli_words.proofs.rounding.granted_to.Goals as goal

pub returns : goal.returns
returns c =
    let request : Span = c.args.request.now in
    let top_is : request.base + (request.top - c.from.result) ≡ request.top = omega (arith, c.requires.in_order, c.from.ensures) in
    subst (λ (granted : Span). IsGranted request granted) (sym c.granted.ensures.granted)
    (subst (λ (top : ℕ). IsGranted (record { base = request.base; top = top }) c.set_bounds.result.granted) top_is c.set_bounds.ensures.granted)
