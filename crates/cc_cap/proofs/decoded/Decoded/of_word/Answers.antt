use Rattle.std.proofs.Common.{ap, arith}
use Rattle.cc_bounds.specs.declared.span.Span.{Span}
use Rattle.cc_cap.proofs.decoded.Decoded.of_word.Goals as goal

pub invariant_of-result : goal.invariant_of-result
invariant_of-result c = record {
  is_exponent = grind (arith, c.exponent_field-field.ensures.capped, c.min.ensures);
  decodes = λ span decodes.
      let same = c.decode_with.ensures.only span decodes in
      (ap (λ (s : Span). s.base) same, ap (λ (s : Span). s.top) same);
  is_field = c.exponent_field-field.ensures.field;
}
