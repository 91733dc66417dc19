use Rattle.std.proofs.Common.{subst, sym}
use Rattle.cc_bounds.specs.declared.span.Span.{Span}
use Rattle.cc_bounds.specs.Granule.{IsGranted}
use Rattle.cc_explain.proofs.RequestLemmas.{span_from-is}
use Rattle.cc_explain.proofs.request.grant_of.Goals as goal

pub granule_of-requires-clause-granted : goal.granule_of-requires-clause-granted
granule_of-requires-clause-granted c =
    subst (λ (s : Span). IsGranted s c.set_bounds-set.result.granted) (span_from-is c.args.request.now c.length_of.result c.requires c.length_of.ensures.value)
    c.set_bounds-set.ensures.granted

pub word_of-requires-clause-granted : goal.word_of-requires-clause-granted
word_of-requires-clause-granted c =
    subst (λ (s : Span). IsGranted c.args.request.now s) (sym c.granted-granted.ensures.granted)
    (subst (λ (s : Span). IsGranted s c.set_bounds-set.result.granted) (span_from-is c.args.request.now c.length_of.result c.requires c.length_of.ensures.value)
    c.set_bounds-set.ensures.granted)

pub returns-clause-grant : goal.returns-clause-grant
returns-clause-grant c = record {
  is_granule = c.granule_of.ensures;
  is_granted = subst (λ (s : Span). IsGranted c.args.request.now s) (sym c.granted-granted.ensures.granted)
      (subst (λ (s : Span). IsGranted s c.set_bounds-set.result.granted) (span_from-is c.args.request.now c.length_of.result c.requires c.length_of.ensures.value)
      c.set_bounds-set.ensures.granted);
  of_word = c.word_of.ensures;
}
