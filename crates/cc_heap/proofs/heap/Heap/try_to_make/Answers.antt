use Rattle.std.proofs.Common.{rules}
use Rattle.cc_heap.proofs.StepLemmas.{tries_again}
use Rattle.cc_heap.proofs.heap.Heap.try_to_make.Goals as goal

pub returns-clause-tries : goal.returns-clause-tries
returns-clause-tries g c =
    tries_again c.args.self.now c.make.new.self c.sweep.new.self c.make-2.new.self c.args.id c.args.align c.args.size
    c.in_ok-making.making c.make-2.result (search rules) (c.in_ok-making.ensures.attempts c.requires.fresh) c.sweep.ensures.swept
    (c.make-2.ensures.attempts (search rules))
