use Rattle.std.proofs.Common.{◌≡◌, ◌∙◌, subst, sym}
use Rattle.std.proofs.lemmas.Bool.{false≢true}
use Rattle.cc_word.specs.declared.fields.Fields.{Fields}
use Rattle.cc_bounds.specs.declared.span.Span.{Span}
use Rattle.cc_bounds.specs.Decoding.{DecodesTo}
use Rattle.cc_decode.specs.Search.{GrantsSearch, IsTaggable}
use Rattle.cc_decode.proofs.search.is_found.Goals as goal

pub returns-then-is_taggable : goal.returns-then-is_taggable
returns-then-is_taggable c = (
  λ granted. record {
    fields = c.of_word-decoded.result.fields;
    bounds = c.of_word-decoded.result.bounds;
    of_word = c.of_word-decoded.ensures.word;
    decoded = c.of_word-decoded.ensures.decodes;
    taggable = c.is_taggable.ensures.0 c.if-is_taggable.true;
    grants = c.grants.ensures.0 granted;
  },
  λ found.
      let fields : found.fields ≡ c.of_word-decoded.result.fields = c.of_word-decoded.ensures.only_fields found.fields found.of_word in
      let decoded : DecodesTo c.of_word-decoded.result.fields found.bounds = subst (λ (f : Fields). DecodesTo f found.bounds) fields found.decoded in
      let bounds : found.bounds ≡ c.of_word-decoded.result.bounds = c.of_word-decoded.ensures.only_bounds found.bounds decoded in
      c.grants.ensures.1 (subst (λ (span : Span). GrantsSearch c.args.search c.of_word-decoded.result.fields span) bounds
      (subst (λ (f : Fields). GrantsSearch c.args.search f found.bounds) fields found.grants)),
)

pub returns-else-is_taggable : goal.returns-else-is_taggable
returns-else-is_taggable c = (
  λ yes. absurd (false≢true (sym c.if-is_taggable.false ∙ yes)),
  λ found.
      let fields : found.fields ≡ c.of_word-decoded.result.fields = c.of_word-decoded.ensures.only_fields found.fields found.of_word in
      absurd (false≢true (sym c.if-is_taggable.false ∙ c.is_taggable.ensures.1 (subst IsTaggable fields found.taggable))),
)
