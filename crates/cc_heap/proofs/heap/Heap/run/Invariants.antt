use Rattle.std.proofs.Common.{take}
use Rattle.cc_heap.specs.Memory.{IsSoundMemory}
use Rattle.cc_heap.specs.Run.{Runs}
use Rattle.cc_heap.proofs.heap.Heap.run.Given as goal

-- the events so far were taken
abbrev pub invariant-loop-i : goal.invariant-loop-i
invariant-loop-i g l = record {
  runs : Runs l.fn.self (take l.i l.events) l.self;
  sound : IsSoundMemory l.self.settings.align l.self.memory;
}
