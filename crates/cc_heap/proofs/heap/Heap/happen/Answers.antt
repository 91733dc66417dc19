use Rattle.std.proofs.Common.{ℕ, IfOk, subst, sym}
use Rattle.cc_heap.specs.declared.event.Event.{Event}
use Rattle.cc_heap.specs.Events.{AllocatesInHeap, IsEvent}
use Rattle.cc_heap.proofs.heap.Heap.happen.Goals as goal

pub returns-in-Clear-clause-is_event : goal.returns-in-Clear-clause-is_event
returns-in-Clear-clause-is_event g c =
    let new = c.allocate-in-Clear.new.self in
    subst (λ (event : Event). IfOk c.allocate-in-Clear.result (λ outcome. IsEvent c.args.self.now event outcome new)) (sym c.in-Clear.is)
    (subst (λ (size : ℕ). IfOk c.allocate-in-Clear.result (λ outcome. AllocatesInHeap c.args.self.now c.in-Clear.id 1 size outcome new))
    c.max-in-Clear.ensures c.allocate-in-Clear.ensures.allocates)
