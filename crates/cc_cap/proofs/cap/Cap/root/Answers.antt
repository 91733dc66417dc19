use Rattle.std.proofs.Common.{◌≡◌, ◌∙◌, ◌^◌, ap, subst, sym}
use Rattle.cc_bounds.specs.Span.{from_zero}
use Rattle.cc_bounds.specs.Encoding.{Encoding}
use Rattle.cc_bounds.proofs.GranuleLemmas.{granted_same}
use Rattle.cc_cap.specs.Capability.{IsCapability, root_capability}
use Rattle.cc_cap.proofs.BoundsLemmas.{whole-IsSound, root-IsCapability}
use Rattle.cc_cap.proofs.cap.Cap.root.Goals as goal

pub invariant_of-result-2 : goal.invariant_of-result-2
invariant_of-result-2 c =
    let granted : c.set_bounds.result.granted ≡ from_zero (2 ^ 64) =
    granted_same (from_zero (2 ^ 64)) c.set_bounds.result.granted (from_zero (2 ^ 64)) c.set_bounds.ensures.granted whole-IsSound in
    let span : c.as_exact.result.granted ≡ from_zero (2 ^ 64) =
    ap (λ (set : Encoding). set.granted) c.as_exact.ensures ∙ granted in
    let made : root_capability ≡ record root_capability { span = c.as_exact.result.granted; permissions = c.all.result.0 } =
    λ i. record root_capability { span = sym span i; permissions = sym c.all.ensures i } in
    record {
      exact = ap (λ (set : Encoding). set.exact) c.as_exact.ensures;
      is_capability = subst IsCapability made root-IsCapability;
    }
