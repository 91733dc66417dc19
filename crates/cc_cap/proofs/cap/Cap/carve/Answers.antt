use Rattle.std.proofs.Common.{Ok, ap, subst, sym}
use Rattle.cc_bounds.specs.Span.{IsWithin, length_of}
use Rattle.cc_bounds.specs.Encoding.{Encoding}
use Rattle.cc_cap.specs.Cap.{value_of}
use Rattle.cc_cap.specs.Capability.{Capability, IsCapability, IsUnsealed, at_address}
use Rattle.cc_cap.specs.Derivation.{SetsAddress, SetsExactBounds}
use Rattle.cc_cap.proofs.BoundsLemmas.{carved-IsCapability, carved-is_derived, carved-made}
use Rattle.cc_cap.proofs.cap.Cap.carve.Goals as goal

pub invariant_of-result : goal.invariant_of-result
invariant_of-result c =
    record {
      exact = ap (λ (set : Encoding). set.exact) c.of_sound.ensures;
      is_capability = subst IsCapability (carved-made (value_of c.self.inside) c.args.span c.of_sound.result c.of_sound.ensures)
          (carved-IsCapability (value_of c.self.inside) c.args.span c.self.invariant.is_capability c.requires.is_span
          c.requires.sound);
    }

pub returns-clause-derived : goal.returns-clause-derived
returns-clause-derived c =
    let cap : Capability = value_of c.self.inside in
    let base = c.args.span.base in
    let derived = carved-is_derived cap c.args.span c.self.invariant.is_capability
    (subst IsUnsealed (sym c.self.view_is) c.requires.unsealed)
    (subst (λ (now : Capability). IsWithin c.args.span now.span) (sym c.self.view_is) c.requires.in_bounds)
    c.requires.is_span c.requires.sound in
    subst (λ (now : Capability). SetsAddress now base (Ok (at_address now base))
    × SetsExactBounds (at_address now base) (length_of c.args.span)
    (Ok (record cap { span = c.of_sound.result.granted; address = base })))
    c.self.view_is (
      derived.0,
      subst (λ (result : Capability). SetsExactBounds (at_address cap base) (length_of c.args.span) (Ok result))
          (carved-made cap c.args.span c.of_sound.result c.of_sound.ensures)
          derived.1,
    )

pub returns-clause-made : goal.returns-clause-made
returns-clause-made c =
    let granted = ap (λ (set : Encoding). set.granted) c.of_sound.ensures in
    λ i. record (c.self.view_is i) { span = granted i; address = c.args.span.base }
