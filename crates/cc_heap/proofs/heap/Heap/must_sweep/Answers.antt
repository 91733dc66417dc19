use Rattle.std.proofs.Common.{arith}
use Rattle.cc_heap.proofs.HeapLemmas.{small}
use Rattle.cc_heap.proofs.heap.Heap.must_sweep.Goals as goal

pub asks_for_sweep-requires-clause-usage_fits : goal.asks_for_sweep-requires-clause-usage_fits
asks_for_sweep-requires-clause-usage_fits g c =
    let few = small _ c.self.inside.usage _ _ _ (g.P.Placer.holds c.self.inside.placer) c.self.invariant in
    omega (arith, few.held)
