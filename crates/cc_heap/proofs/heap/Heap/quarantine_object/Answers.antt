use Rattle.std.proofs.Common.{arith, refl}
use Rattle.cc_heap.proofs.HeapLemmas.{fit, kept_retired, live_object, small, taken}
use Rattle.cc_heap.proofs.StepLemmas.{quarantines}
use Rattle.cc_heap.proofs.heap.Heap.quarantine_object.Goals as goal

pub with_quarantined-self-inside-requires-clause-in_order : goal.with_quarantined-self-inside-requires-clause-in_order
with_quarantined-self-inside-requires-clause-in_order g c =
    let takes = taken c.args.id c.in-Some.object c.self.inside.objects.entries c.remove.new.self.entries c.remove.result
    c.remove.ensures.value c.in-Some.is c.remove.ensures.entries in
    let object = live_object c.self.inside.settings.align c.self.inside.objects.entries c.remove.new.self.entries
    c.self.inside.quarantine.items c.self.inside.usage c.args.id c.in-Some.object (fit _ _ c.self.invariant.sound)
    takes c.self.invariant.usage_is in
    object.is_span.in_order

pub with_quarantined-self-inside-requires-clause-asked_is : goal.with_quarantined-self-inside-requires-clause-asked_is
with_quarantined-self-inside-requires-clause-asked_is g c =
    let takes = taken c.args.id c.in-Some.object c.self.inside.objects.entries c.remove.new.self.entries c.remove.result
    c.remove.ensures.value c.in-Some.is c.remove.ensures.entries in
    let object = live_object c.self.inside.settings.align c.self.inside.objects.entries c.remove.new.self.entries
    c.self.inside.quarantine.items c.self.inside.usage c.args.id c.in-Some.object (fit _ _ c.self.invariant.sound)
    takes c.self.invariant.usage_is in
    object.asked

pub with_quarantined-self-inside-requires-clause-live_is : goal.with_quarantined-self-inside-requires-clause-live_is
with_quarantined-self-inside-requires-clause-live_is g c =
    let takes = taken c.args.id c.in-Some.object c.self.inside.objects.entries c.remove.new.self.entries c.remove.result
    c.remove.ensures.value c.in-Some.is c.remove.ensures.entries in
    let object = live_object c.self.inside.settings.align c.self.inside.objects.entries c.remove.new.self.entries
    c.self.inside.quarantine.items c.self.inside.usage c.args.id c.in-Some.object (fit _ _ c.self.invariant.sound)
    takes c.self.invariant.usage_is in
    object.counted

pub with_quarantined-self-inside-requires-clause-fits : goal.with_quarantined-self-inside-requires-clause-fits
with_quarantined-self-inside-requires-clause-fits g c =
    let few = small _ c.self.inside.usage _ _ _ (g.P.Placer.holds c.self.inside.placer) c.self.invariant in
    omega (arith, few.held)

pub invariant_of-self-2 : goal.invariant_of-self-2
invariant_of-self-2 g c =
    let takes = taken c.args.id c.in-Some.object c.self.inside.objects.entries c.remove.new.self.entries c.remove.result
    c.remove.ensures.value c.in-Some.is c.remove.ensures.entries in
    kept_retired c.self.inside.settings c.self.inside.totals c.self.inside.totals c.self.inside.objects.entries
    c.remove.new.self.entries c.self.inside.quarantine.items c.push_reserved.new.self.items c.self.inside.usage _ _ _ _ _
    (g.P.Placer.holds c.self.inside.placer) c.args.id c.in-Some.object c.self.invariant takes c.remove.ensures.unique
    c.with_quarantined-self-inside.ensures c.push_reserved.ensures.capacity c.push_reserved.ensures.items refl

pub returns-clause-quarantined : goal.returns-clause-quarantined
returns-clause-quarantined g c =
    let takes = taken c.args.id c.in-Some.object c.self.inside.objects.entries c.remove.new.self.entries c.remove.result
    c.remove.ensures.value c.in-Some.is c.remove.ensures.entries in
    quarantines _ c.self.inside.settings c.self.inside.totals c.self.inside.objects.entries c.remove.new.self.entries
    c.self.inside.quarantine.items c.push_reserved.new.self.items c.args.id c.in-Some.object c.remove.result
    c.self.view_is c.remove.ensures.value c.in-Some.is takes c.push_reserved.ensures.items
