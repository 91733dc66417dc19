use Rattle.std.proofs.Common.{arith}
use Rattle.cc_heap.proofs.HeapLemmas.{small}
use Rattle.cc_heap.proofs.heap.Heap.count_state.Goals as goal

pub with_usage-self-inside-requires : goal.with_usage-self-inside-requires
with_usage-self-inside-requires g c =
    let few = small _ c.self.inside.usage _ _ _ (g.P.Placer.holds c.self.inside.placer) c.self.invariant in
    omega (arith, few.held)
