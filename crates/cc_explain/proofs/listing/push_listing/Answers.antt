use Rattle.std.proofs.Common.{◌≡◌, ℕ, List, ◌++◌, subst}
use Rattle.std.specs.Prelude.{IsTrue, ◌↔◌}
use Rattle.cc_cap.specs.Canonical.{IsCanonical}
use Rattle.cc_explain.specs.Listing.{bounds_lines_of}
use Rattle.cc_explain.proofs.listing.push_listing.Goals as goal

pub returns : goal.returns
returns c = record {
  fields = c.of_word-decoded.result.fields;
  bounds = c.of_word-decoded.result.bounds;
  canonical = c.is_canonical-canonical.result;
  of_word = c.of_word-decoded.ensures.word;
  only_fields = c.of_word-decoded.ensures.only_fields;
  decoded = c.of_word-decoded.ensures.decodes;
  only_bounds = c.of_word-decoded.ensures.only_bounds;
  is_canonical = subst (λ (word : ℕ). IsTrue c.is_canonical-canonical.result ↔ IsCanonical word) c.of_word-decoded.ensures.word c.is_canonical-canonical.ensures;
  is_text = subst (λ (lines : List ℕ). c.push_bounds_lines.new.text ≡ lines ++ bounds_lines_of c.of_word-decoded.result.fields c.of_word-decoded.result.bounds c.is_canonical-canonical.result)
      c.push_field_lines.ensures.value c.push_bounds_lines.ensures;
}
