use Rattle.std.proofs.Common.{◌≡◌, ◌+◌, length}
use Rattle.cc_heap.proofs.heap.Heap.release_all.Given as goal

-- so many spans fewer are quarantined, and the rest stays
abbrev pub invariant-loop-released : goal.invariant-loop-released
invariant-loop-released g l = record {
  fewer : length l.self.memory.quarantined + l._released ≡ length l.fn.self.memory.quarantined;
  rest : l.self ≡ record {
    settings = l.fn.self.settings;
    memory = record { live = l.fn.self.memory.live; quarantined = l.self.memory.quarantined };
    totals = l.fn.self.totals;
  };
}
