use Rattle.std.proofs.Common.{◌≡◌, get_or, arith, rules, nat_lt, true, false}
use Rattle.std.proofs.lemmas.Bool.Decides.{nat_tests}
use Rattle.std.proofs.lemmas.List.Sorted.{IsPartitionPoint-from_clause, IsPartitionedBy-ltb}
use Rattle.cc_bounds.specs.declared.span.Span.{Span}
use Rattle.cc_placer.proofs.SortedLemmas.{base_le}
use Rattle.cc_placers.proofs.position.position_for.Goals as goal

pub returns-clause-below : goal.returns-clause-below
returns-clause-below c k d below =
    let parted = IsPartitionedBy-ltb (λ (s : Span). s.base) c.args.spans.now c.args.base
    (base_le c.args.spans.now c.requires.in_order c.requires.held) in
    let point = IsPartitionPoint-from_clause (λ (s : Span). nat_lt s.base c.args.base) _ _
    c.partition_point.ensures.partitioned parted (λ a r q k. search rules) in
    let at : nat_lt (get_or c.args.spans.now k d).base c.args.base ≡ true = point.0 k d (omega arith) below in
    grind (arith, nat_tests)

pub returns-clause-above : goal.returns-clause-above
returns-clause-above c k d above within =
    let parted = IsPartitionedBy-ltb (λ (s : Span). s.base) c.args.spans.now c.args.base
    (base_le c.args.spans.now c.requires.in_order c.requires.held) in
    let point = IsPartitionPoint-from_clause (λ (s : Span). nat_lt s.base c.args.base) _ _
    c.partition_point.ensures.partitioned parted (λ a r q k. search rules) in
    let at : nat_lt (get_or c.args.spans.now k d).base c.args.base ≡ false = point.1 k d above within in
    grind (arith, nat_tests)
