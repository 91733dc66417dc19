use Rattle.std.proofs.Common.{◌∷◌, ◌∙◌, Option, IsNone, arith, refl, subst, sym, ap, IsSomeAnd, option_map}
use Rattle.cc_bounds.specs.declared.span.Span.{Span}
use Rattle.cc_bounds.specs.Span.{IsWithin}
use Rattle.std.proofs.lemmas.List.Sorted.{IsPermutation-refl}
use Rattle.cc_heap.specs.Memory.{memory_spans}
use Rattle.cc_heap.proofs.MemoryLemmas.{found_first}
use Rattle.cc_heap.proofs.HeapLemmas.{fit, below_limit, held_length, kept_made, kept_replaced, live_object, memory_of, placed, puts_new, puts_over, small, unplaced, usage_made}
use Rattle.cc_heap.proofs.StepLemmas.{makes, replaced}
use Rattle.cc_heap.proofs.heap.Heap.make.Goals as goal

pub returns-in_default-clause-attempts : goal.returns-in_default-clause-attempts
returns-in_default-clause-attempts g c fresh = (
  rw (← c.self.view_is) (omega (arith, held_length (memory_of c.self.inside.objects.entries c.self.inside.quarantine.items), c.if-len-self.false, c.len.ensures.len, c.len-2.ensures)),
  rw (← c.self.view_is) (unplaced c.self.invariant c.args.align c.args.size (option_map (λ found. found.0) c.place.result) c.place.ensures (rw c.in_default.is refl)),
  rw (← c.self.view_is, c.in_ok-reserve.ensures.items) refl,
)

pub returns-in_default-clause-replaces : goal.returns-in_default-clause-replaces
returns-in_default-clause-replaces g c live = (
  rw (← c.self.view_is) (omega (arith, held_length (memory_of c.self.inside.objects.entries c.self.inside.quarantine.items), c.if-len-self.false, c.len.ensures.len, c.len-2.ensures)),
  rw (← c.self.view_is) (unplaced c.self.invariant c.args.align c.args.size (option_map (λ found. found.0) c.place.result) c.place.ensures (rw c.in_default.is refl)),
  rw (← c.self.view_is, c.in_ok-reserve.ensures.items) refl,
)

pub hold_at-requires-clause-not_empty : goal.hold_at-requires-clause-not_empty
hold_at-requires-clause-not_empty g c =
    let at = placed c.self.invariant c.args.align c.args.size (option_map (λ found. found.0) c.place.result) c.in-Some.span c.place.ensures
    (rw c.in-Some.is refl) c.requires.aligned c.requires.some (omega (arith, c.ranges.size.fits)) in
    at.not_empty

pub hold_at-requires-clause-in_pool : goal.hold_at-requires-clause-in_pool
hold_at-requires-clause-in_pool g c =
    let at = placed c.self.invariant c.args.align c.args.size (option_map (λ found. found.0) c.place.result) c.in-Some.span c.place.ensures
    (rw c.in-Some.is refl) c.requires.aligned c.requires.some (omega (arith, c.ranges.size.fits)) in
    subst (λ (p : Option Span). IsSomeAnd p (IsWithin c.in-Some.span)) (sym c.self.invariant.pool_is) at.within

pub hold_at-requires-clause-apart : goal.hold_at-requires-clause-apart
hold_at-requires-clause-apart g c =
    let at = placed c.self.invariant c.args.align c.args.size (option_map (λ found. found.0) c.place.result) c.in-Some.span c.place.ensures
    (rw c.in-Some.is refl) c.requires.aligned c.requires.some (omega (arith, c.ranges.size.fits)) in (
      memory_spans (memory_of c.self.inside.objects.entries c.self.inside.quarantine.items),
      c.self.invariant.held_is _ (IsPermutation-refl (memory_spans (memory_of c.self.inside.objects.entries c.self.inside.quarantine.items))),
      at.apart,
      below_limit _ c.self.inside.usage _ _ _ (g.P.Placer.holds c.self.inside.placer) c.self.invariant
          (omega (arith, c.if-len-self.false, c.len.ensures.len, c.len-2.ensures)),
    )

pub with_made-usage-requires-clause-in_order : goal.with_made-usage-requires-clause-in_order
with_made-usage-requires-clause-in_order g c =
    let at = placed c.self.invariant c.args.align c.args.size (option_map (λ found. found.0) c.place.result) c.in-Some.span c.place.ensures
    (rw c.in-Some.is refl) c.requires.aligned c.requires.some (omega (arith, c.ranges.size.fits)) in
    omega (arith, at.not_empty)

pub with_made-usage-requires-clause-asked_fits : goal.with_made-usage-requires-clause-asked_fits
with_made-usage-requires-clause-asked_fits g c =
    let few = small _ c.self.inside.usage _ _ _ (g.P.Placer.holds c.self.inside.placer) c.self.invariant in
    omega (arith, few.asked, c.ranges.size.fits)

pub with_made-usage-requires-clause-live_fits : goal.with_made-usage-requires-clause-live_fits
with_made-usage-requires-clause-live_fits g c =
    let at = placed c.self.invariant c.args.align c.args.size (option_map (λ found. found.0) c.place.result) c.in-Some.span c.place.ensures
    (rw c.in-Some.is refl) c.requires.aligned c.requires.some (omega (arith, c.ranges.size.fits)) in
    let few = small _ c.self.inside.usage _ _ _ (g.P.Placer.holds c.self.inside.placer) c.self.invariant in
    omega (arith, few.held, at.exact.bounds.is_span.top_fits)

pub overflow_sub-end : goal.overflow_sub-end
overflow_sub-end g c =
    let at = placed c.self.invariant c.args.align c.args.size (option_map (λ found. found.0) c.place.result) c.in-Some.span c.place.ensures
    (rw c.in-Some.is refl) c.requires.aligned c.requires.some (omega (arith, c.ranges.size.fits)) in
    omega (arith, at.in_pool, c.from.ensures)

pub with_made-self-inside-requires-clause-in_order : goal.with_made-self-inside-requires-clause-in_order
with_made-self-inside-requires-clause-in_order g c =
    let at = placed c.self.invariant c.args.align c.args.size (option_map (λ found. found.0) c.place.result) c.in-Some.span c.place.ensures
    (rw c.in-Some.is refl) c.requires.aligned c.requires.some (omega (arith, c.ranges.size.fits)) in
    omega (arith, at.not_empty)

pub with_made-self-inside-requires-clause-fits : goal.with_made-self-inside-requires-clause-fits
with_made-self-inside-requires-clause-fits g c =
    let at = placed c.self.invariant c.args.align c.args.size (option_map (λ found. found.0) c.place.result) c.in-Some.span c.place.ensures
    (rw c.in-Some.is refl) c.requires.aligned c.requires.some (omega (arith, c.ranges.size.fits)) in
    let few = small _ c.self.inside.usage _ _ _ (g.P.Placer.holds c.self.inside.placer) c.self.invariant in
    let made = c.with_made-usage.ensures in
    rw made (omega (arith, few.held, at.exact.bounds.is_span.top_fits))

pub invariant_of-self-in_default-before : goal.invariant_of-self-in_default-before
invariant_of-self-in_default-before g c =
    let at = placed c.self.invariant c.args.align c.args.size (option_map (λ found. found.0) c.place.result) c.in-Some.span c.place.ensures
    (rw c.in-Some.is refl) c.requires.aligned c.requires.some (omega (arith, c.ranges.size.fits)) in
    let more = puts_new c.args.id (record { size = c.args.size; align = c.args.align; span = c.in-Some.span })
    c.self.inside.objects.entries c.insert.new.self.entries c.in_ok-before.before c.in_ok-before.ensures.old
    (subst IsNone (sym c.in_default-before.is ∙ c.in_ok-before.ensures.old) refl)
    c.in_ok-before.ensures.entries in
    kept_made c.self.inside.settings c.self.inside.totals _ c.self.inside.objects.entries c.insert.new.self.entries
    c.self.inside.quarantine.items c.reserve.new.self.items c.self.inside.usage _ _ _ _ _ _ _
    (g.P.Placer.holds c.self.inside.placer) (g.P.Placer.holds c.hold_at.new.self) c.args.id
    (record { size = c.args.size; align = c.args.align; span = c.in-Some.span }) c.self.invariant at
    (λ others adds. c.hold_at.ensures.held _ others (c.self.invariant.held_is _ (IsPermutation-refl (memory_spans (memory_of c.self.inside.objects.entries c.self.inside.quarantine.items)))) at.apart
    (below_limit _ c.self.inside.usage _ _ _ (g.P.Placer.holds c.self.inside.placer) c.self.invariant
    (omega (arith, c.if-len-self.false, c.len.ensures.len, c.len-2.ensures))) adds)
    (omega (arith, c.if-len-self.false, c.len.ensures.len, c.len-2.ensures)) more c.in_ok-before.ensures.unique
    c.with_made-usage.ensures
    (omega (arith, c.in_ok-reserve.ensures.ok, c.in_ok-reserve.ensures.len, c.len-3.ensures.len))
    c.hold_at.ensures.limit c.hold_at.ensures.pool c.in_ok-reserve.ensures.items
    (omega (arith, ap (λ t. t.high) c.with_made-self-inside.ensures, c.from.ensures))

pub returns-in_default-before-clause-attempts : goal.returns-in_default-before-clause-attempts
returns-in_default-before-clause-attempts g c fresh =
    let at = placed c.self.invariant c.args.align c.args.size (option_map (λ found. found.0) c.place.result) c.in-Some.span c.place.ensures
    (rw c.in-Some.is refl) c.requires.aligned c.requires.some (omega (arith, c.ranges.size.fits)) in
    let more = puts_new c.args.id (record { size = c.args.size; align = c.args.align; span = c.in-Some.span })
    c.self.inside.objects.entries c.insert.new.self.entries c.in_ok-before.before c.in_ok-before.ensures.old
    (subst IsNone (sym c.in_default-before.is ∙ c.in_ok-before.ensures.old) refl)
    c.in_ok-before.ensures.entries in
    let kept = invariant_of-self-in_default-before g c in
    makes _ _ c.self.inside.settings c.self.inside.totals c.with_made-self-inside.result
    c.self.inside.objects.entries c.insert.new.self.entries c.self.inside.quarantine.items c.reserve.new.self.items
    c.with_made-usage.result c.args.id (record { size = c.args.size; align = c.args.align; span = c.in-Some.span })
    c.self.view_is refl (omega (arith, c.if-len-self.false, c.len.ensures.len, c.len-2.ensures)) at more c.in_ok-reserve.ensures.items
    (rw (← c.in_ok-reserve.ensures.items) kept.usage_is)
    (rw c.from.ensures at c.with_made-self-inside.ensures)

pub with_quarantined-self-inside-requires-clause-in_order : goal.with_quarantined-self-inside-requires-clause-in_order
with_quarantined-self-inside-requires-clause-in_order g c =
    let first = found_first c.args.id c.in-Some-before.before c.self.inside.objects.entries
    (sym c.in_ok-before.ensures.old ∙ c.in-Some-before.is) in
    let before = live_object c.self.inside.settings.align c.self.inside.objects.entries _
    c.self.inside.quarantine.items c.self.inside.usage c.args.id c.in-Some-before.before
    (fit _ _ c.self.invariant.sound) first c.self.invariant.usage_is in
    before.is_span.in_order

pub with_quarantined-self-inside-requires-clause-asked_is : goal.with_quarantined-self-inside-requires-clause-asked_is
with_quarantined-self-inside-requires-clause-asked_is g c =
    let first = found_first c.args.id c.in-Some-before.before c.self.inside.objects.entries
    (sym c.in_ok-before.ensures.old ∙ c.in-Some-before.is) in
    let before = live_object c.self.inside.settings.align c.self.inside.objects.entries _
    c.self.inside.quarantine.items c.self.inside.usage c.args.id c.in-Some-before.before
    (fit _ _ c.self.invariant.sound) first c.self.invariant.usage_is in
    let made = c.with_made-usage.ensures in
    rw made (omega (arith, before.asked))

pub with_quarantined-self-inside-requires-clause-live_is : goal.with_quarantined-self-inside-requires-clause-live_is
with_quarantined-self-inside-requires-clause-live_is g c =
    let first = found_first c.args.id c.in-Some-before.before c.self.inside.objects.entries
    (sym c.in_ok-before.ensures.old ∙ c.in-Some-before.is) in
    let before = live_object c.self.inside.settings.align c.self.inside.objects.entries _
    c.self.inside.quarantine.items c.self.inside.usage c.args.id c.in-Some-before.before
    (fit _ _ c.self.invariant.sound) first c.self.invariant.usage_is in
    let made = c.with_made-usage.ensures in
    rw made (omega (arith, before.counted))

pub invariant_of-self-2 : goal.invariant_of-self-2
invariant_of-self-2 g c =
    let at = placed c.self.invariant c.args.align c.args.size (option_map (λ found. found.0) c.place.result) c.in-Some.span c.place.ensures
    (rw c.in-Some.is refl) c.requires.aligned c.requires.some (omega (arith, c.ranges.size.fits)) in
    let takes = puts_over c.args.id c.in-Some-before.before (record { size = c.args.size; align = c.args.align; span = c.in-Some.span })
    c.self.inside.objects.entries c.insert.new.self.entries c.in_ok-before.before c.in_ok-before.ensures.old
    c.in-Some-before.is c.in_ok-before.ensures.entries in
    kept_replaced c.self.inside.settings c.self.inside.totals c.with_made-self-inside.result
    c.self.inside.objects.entries c.insert.new.self.entries c.self.inside.quarantine.items
    c.push_reserved.new.self.items c.self.inside.usage c.with_made-usage.result _ _ _ _ _ _ _
    (g.P.Placer.holds c.self.inside.placer) (g.P.Placer.holds c.hold_at.new.self) c.args.id
    (record { size = c.args.size; align = c.args.align; span = c.in-Some.span }) c.in-Some-before.before c.self.invariant at
    (λ others adds. c.hold_at.ensures.held _ others (c.self.invariant.held_is _ (IsPermutation-refl (memory_spans (memory_of c.self.inside.objects.entries c.self.inside.quarantine.items)))) at.apart
    (below_limit _ c.self.inside.usage _ _ _ (g.P.Placer.holds c.self.inside.placer) c.self.invariant
    (omega (arith, c.if-len-self.false, c.len.ensures.len, c.len-2.ensures))) adds)
    (omega (arith, c.if-len-self.false, c.len.ensures.len, c.len-2.ensures)) takes c.in_ok-before.ensures.unique
    c.with_made-usage.ensures c.with_quarantined-self-inside.ensures
    (omega (arith, c.in_ok-reserve.ensures.ok, c.in_ok-reserve.ensures.len, c.len-3.ensures.len, c.push_reserved.ensures.capacity))
    c.hold_at.ensures.limit c.hold_at.ensures.pool (rw c.in_ok-reserve.ensures.items at c.push_reserved.ensures.items)
    (omega (arith, ap (λ t. t.high) c.with_made-self-inside.ensures, c.from.ensures))

pub returns-clause-replaces : goal.returns-clause-replaces
returns-clause-replaces g c live =
    let at = placed c.self.invariant c.args.align c.args.size (option_map (λ found. found.0) c.place.result) c.in-Some.span c.place.ensures
    (rw c.in-Some.is refl) c.requires.aligned c.requires.some (omega (arith, c.ranges.size.fits)) in
    let takes = puts_over c.args.id c.in-Some-before.before (record { size = c.args.size; align = c.args.align; span = c.in-Some.span })
    c.self.inside.objects.entries c.insert.new.self.entries c.in_ok-before.before c.in_ok-before.ensures.old
    c.in-Some-before.is c.in_ok-before.ensures.entries in
    replaced _ c.self.inside.settings c.self.inside.totals c.with_made-self-inside.result
    c.self.inside.objects.entries c.insert.new.self.entries c.self.inside.quarantine.items
    c.push_reserved.new.self.items c.with_made-usage.result c.args.id c.in-Some-before.before
    (record { size = c.args.size; align = c.args.align; span = c.in-Some.span }) c.in_ok-before.before c.self.view_is
    (omega (arith, c.if-len-self.false, c.len.ensures.len, c.len-2.ensures)) at c.in_ok-before.ensures.old c.in-Some-before.is takes
    (rw c.in_ok-reserve.ensures.items at c.push_reserved.ensures.items)
    (usage_made c.self.inside.objects.entries ((c.args.id, (record { size = c.args.size; align = c.args.align; span = c.in-Some.span })) ∷ c.self.inside.objects.entries)
    c.self.inside.quarantine.items c.args.id (record { size = c.args.size; align = c.args.align; span = c.in-Some.span }) c.self.inside.usage c.with_made-usage.result
    c.self.invariant.usage_is c.with_made-usage.ensures
    (IsPermutation-refl ((c.args.id, (record { size = c.args.size; align = c.args.align; span = c.in-Some.span })) ∷ c.self.inside.objects.entries)))
    (rw c.from.ensures at c.with_made-self-inside.ensures)
