use Rattle.cc_heap.proofs.RunLemmas.{runs_more}
use Rattle.cc_heap.proofs.heap.Heap.run.Goals as goal

pub loop-i-preserved : goal.loop-i-preserved
loop-i-preserved g c = record {
  runs = runs_more c.args.self.now c.loop-i.self c.event.new.self c.args.events.now c.loop-i.i _ c.in_ok-event.field-0
      c.loop-i-test.true c.loop-i.invariant.runs c.in_ok-event.ensures.is_event;
  sound = c.in_ok-event.ensures.sound;
}
