use Rattle.std.proofs.Common.{arith}
use Rattle.cc_heap.proofs.HeapLemmas.{small}
use Rattle.cc_heap.proofs.heap.Heap.sweep.Goals as goal

pub with_sweep-self-inside-requires-clause-fits : goal.with_sweep-self-inside-requires-clause-fits
with_sweep-self-inside-requires-clause-fits g c =
    let few = small _ c.self-2.inside.usage _ _ _ (g.P.Placer.holds c.self-2.inside.placer) c.self-2.invariant in
    omega (arith, few.held)

pub with_sweep-self-inside-requires-clause-over_fits : goal.with_sweep-self-inside-requires-clause-over_fits
with_sweep-self-inside-requires-clause-over_fits g c =
    let few = small _ c.self.inside.usage _ _ _ (g.P.Placer.holds c.self.inside.placer) c.self.invariant in
    let after = small _ c.self-2.inside.usage _ _ _ (g.P.Placer.holds c.self-2.inside.placer) c.self-2.invariant in
    omega (arith, few.held, after.held)
