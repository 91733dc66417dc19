use Rattle.std.proofs.Common.{◌∙◌, sym}
use Rattle.cc_heap.proofs.HeapLemmas.{fit, live_object}
use Rattle.cc_heap.proofs.MemoryLemmas.{found_first}
use Rattle.cc_heap.proofs.heap.Heap.kept_object.Goals as goal

pub can_take-requires-clause-in_order : goal.can_take-requires-clause-in_order
can_take-requires-clause-in_order g c =
    let first = found_first c.args.id c.in-Some.object c.self.inside.objects.entries
    (sym c.get.ensures.value ∙ sym c.copied.ensures ∙ c.in-Some.is) in
    let object = live_object c.self.inside.settings.align c.self.inside.objects.entries _
    c.self.inside.quarantine.items c.self.inside.usage c.args.id c.in-Some.object
    (fit _ _ c.self.invariant.sound) first c.self.invariant.usage_is in
    object.is_span.in_order
