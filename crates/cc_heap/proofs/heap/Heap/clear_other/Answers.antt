use Rattle.cc_heap.proofs.StepLemmas.{free_settings}
use Rattle.cc_heap.proofs.heap.Heap.clear_other.Goals as goal

pub returns-clause-settings : goal.returns-clause-settings
returns-clause-settings g c = free_settings c.args.self.now c.free.new.self c.args.to c.free.result c.free.ensures.frees
