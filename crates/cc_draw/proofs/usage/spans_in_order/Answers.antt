use Rattle.std.proofs.Common.{rules}
use Rattle.std.proofs.lemmas.List.Sorted.{IsNonDecreasingBy-from_sort_by_key}
use Rattle.cc_bounds.specs.declared.span.Span.{Span}
use Rattle.cc_draw.proofs.usage.spans_in_order.Goals as goal

pub returns-clause-sorted : goal.returns-clause-sorted
returns-clause-sorted c = IsNonDecreasingBy-from_sort_by_key (λ (span : Span). span.base) _ c.sort_unstable_by_key.ensures.sorted (λ a r f called. search rules)
