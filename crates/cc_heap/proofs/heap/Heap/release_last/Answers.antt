use Rattle.std.proofs.Common.{arith}
use Rattle.std.proofs.lemmas.List.Sorted.{IsPermutation-refl}
use Rattle.cc_heap.specs.Memory.{memory_spans}
use Rattle.cc_heap.proofs.HeapLemmas.{kept_released, last_quarantined, memory_of, popped}
use Rattle.cc_heap.proofs.heap.Heap.release_last.Goals as goal

pub give_back-requires : goal.give_back-requires
give_back-requires g c =
    let was = popped c.self.inside.quarantine.items c.pop.new.self.items c.pop.result c.unwrap-span.result
    c.pop.ensures.items c.unwrap-span.ensures in
    let last = last_quarantined c.self.inside.settings c.self.inside.totals c.self.inside.objects.entries
    c.self.inside.quarantine.items c.pop.new.self.items c.self.inside.usage _ _ _
    (g.P.Placer.holds c.self.inside.placer) c.unwrap-span.result c.self.invariant was in
    record {
      is_held = (
        (memory_spans (memory_of c.self.inside.objects.entries c.self.inside.quarantine.items)),
        c.self.invariant.held_is _ (IsPermutation-refl (memory_spans (memory_of c.self.inside.objects.entries c.self.inside.quarantine.items))),
        last.is_held,
      );
    }

pub len-requires : goal.len-requires
len-requires g c =
    let was = popped c.self.inside.quarantine.items c.pop.new.self.items c.pop.result c.unwrap-span.result
    c.pop.ensures.items c.unwrap-span.ensures in
    let last = last_quarantined c.self.inside.settings c.self.inside.totals c.self.inside.objects.entries
    c.self.inside.quarantine.items c.pop.new.self.items c.self.inside.usage _ _ _
    (g.P.Placer.holds c.self.inside.placer) c.unwrap-span.result c.self.invariant was in
    last.is_span.in_order

pub with_released-self-inside-requires : goal.with_released-self-inside-requires
with_released-self-inside-requires g c =
    let was = popped c.self.inside.quarantine.items c.pop.new.self.items c.pop.result c.unwrap-span.result
    c.pop.ensures.items c.unwrap-span.ensures in
    let last = last_quarantined c.self.inside.settings c.self.inside.totals c.self.inside.objects.entries
    c.self.inside.quarantine.items c.pop.new.self.items c.self.inside.usage _ _ _
    (g.P.Placer.holds c.self.inside.placer) c.unwrap-span.result c.self.invariant was in
    omega (arith, last.counted, c.len.ensures)

pub invariant_of-self : goal.invariant_of-self
invariant_of-self g c =
    let was = popped c.self.inside.quarantine.items c.pop.new.self.items c.pop.result c.unwrap-span.result
    c.pop.ensures.items c.unwrap-span.ensures in
    let last = last_quarantined c.self.inside.settings c.self.inside.totals c.self.inside.objects.entries
    c.self.inside.quarantine.items c.pop.new.self.items c.self.inside.usage _ _ _
    (g.P.Placer.holds c.self.inside.placer) c.unwrap-span.result c.self.invariant was in
    kept_released c.self.inside.settings c.self.inside.totals c.self.inside.objects.entries
    c.self.inside.quarantine.items c.pop.new.self.items c.self.inside.usage _ _ _ _ _ _ _
    (g.P.Placer.holds c.self.inside.placer) (g.P.Placer.holds c.give_back.new.self) c.unwrap-span.result c.self.invariant
    was (λ others removes. c.give_back.ensures.held _ others
    (c.self.invariant.held_is _ (IsPermutation-refl (memory_spans (memory_of c.self.inside.objects.entries c.self.inside.quarantine.items)))) last.is_held removes)
    (rw c.len.ensures at c.with_released-self-inside.ensures) c.pop.ensures.capacity
    c.give_back.ensures.limit c.give_back.ensures.pool
