use Rattle.std.proofs.Common.{arith}
use Rattle.cc_plan.proofs.FreedLemmas.{listed_sorted}
use Rattle.cc_plan.proofs.planner.Planner.sort_freed.Goals as goal

pub invariant_of-self : goal.invariant_of-self
invariant_of-self g c = record {
  exact = c.self.invariant.exact;
  disjoint = c.self.invariant.disjoint;
  in_pool = c.self.invariant.in_pool;
  at_most = c.self.invariant.at_most;
  few = c.self.invariant.few;
  reserved = c.self.invariant.reserved;
  bytes = c.self.invariant.bytes;
  limit_is = c.self.invariant.limit_is;
  pool_is = c.self.invariant.pool_is;
  held_is = c.self.invariant.held_is;
  pool = c.self.invariant.pool;
  none_before = c.self.invariant.none_before;
  freed_reserved = omega (arith, c.self.invariant.freed_reserved, c.sort_unstable.ensures.capacity);
  freed_is = listed_sorted c.self.inside.objects.items c.self.inside.freed.items c.sort_unstable.new.self.items
      c.sort_unstable.ensures.permutation c.self.invariant.freed_is;
  live_reserved = c.self.invariant.live_reserved;
  live_is = c.self.invariant.live_is;
}
