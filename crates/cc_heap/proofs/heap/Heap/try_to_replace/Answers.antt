use Rattle.std.proofs.Common.{rules}
use Rattle.cc_heap.proofs.StepLemmas.{replaces_again}
use Rattle.cc_heap.proofs.heap.Heap.try_to_replace.Goals as goal

pub returns-clause-tries : goal.returns-clause-tries
returns-clause-tries g c =
    replaces_again c.args.self.now c.replace.new.self c.sweep.new.self c.replace-2.new.self c.args.id c.args.size
    c.in_ok-making.making c.replace-2.result (search rules) c.in_ok-making.ensures.attempts c.sweep.ensures.swept
    c.replace-2.ensures.attempts
