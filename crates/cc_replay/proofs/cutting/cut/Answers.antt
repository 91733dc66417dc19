use Rattle.std.proofs.Common.{sym, ◌==◌}
use Rattle.cc_replay.proofs.CutLemmas.{after_found, after_none, before_found, before_none}
use Rattle.cc_replay.proofs.cutting.cut.Goals as goal

pub returns-in-Some-clause-before : goal.returns-in-Some-clause-before
returns-in-Some-clause-before c = before_found (λ byte. byte == c.args.at) c.args.text.now c.in-Some.count (sym c.in-Some.ensures)

pub returns-in-Some-clause-after : goal.returns-in-Some-clause-after
returns-in-Some-clause-after c = after_found (λ byte. byte == c.args.at) c.args.text.now c.in-Some.count (sym c.in-Some.ensures)

pub returns-in-None-clause-before : goal.returns-in-None-clause-before
returns-in-None-clause-before c = before_none (λ byte. byte == c.args.at) c.args.text.now (sym c.in-None.ensures)

pub returns-in-None-clause-after : goal.returns-in-None-clause-after
returns-in-None-clause-after c = after_none (λ byte. byte == c.args.at) c.args.text.now (sym c.in-None.ensures)
