use Rattle.std.proofs.Common.{IsSome, inr, sym, subst}
use Rattle.std.proofs.lemmas.Result.{IfOk-weaker, on_err_weaker}
use Rattle.cc_heap.specs.Heap.{Heap, object_under}
use Rattle.cc_heap.proofs.heap.Heap.remake.Goals as goal

pub returns-clause-remakes : goal.returns-clause-remakes
returns-clause-remakes g c =
    let live = subst (λ (heap : Heap). IsSome (object_under heap c.args.from)) c.self.view_is (sym c.if-not-contains_key.ensures) in
    IfOk-weaker c.move_to.result _ _ (λ outcome moves. inr (live, inr (c.if-from-to.false, moves))) c.move_to.ensures.moves

pub returns-clause-refused : goal.returns-clause-refused
returns-clause-refused g c = on_err_weaker c.move_to.result (λ fails. inr fails) c.move_to.ensures.refused
