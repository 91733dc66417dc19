use Rattle.std.proofs.Common.{◌≤◌, length, arith, subst}
use Rattle.cc_heap.specs.Heap.{Heap}
use Rattle.cc_heap.specs.Memory.{memory_spans}
use Rattle.cc_heap.proofs.HeapLemmas.{few_held, small}
use Rattle.cc_heap.proofs.heap.Heap.usage.Goals as goal

pub returns-clause-fits : goal.returns-clause-fits
returns-clause-fits g c =
    let few = small _ c.self.inside.usage _ _ _ (g.P.Placer.holds c.self.inside.placer) c.self.invariant in
    omega (arith, few.held)

pub returns-clause-at_most : goal.returns-clause-at_most
returns-clause-at_most g c =
    let few = few_held _ c.self.inside.usage _ _ _ (g.P.Placer.holds c.self.inside.placer) c.self.invariant in
    subst (λ (heap : Heap). length (memory_spans heap.memory) ≤ heap.settings.limit) c.self.view_is few
