use Rattle.std.proofs.Common.{sym, ◌==◌}
use Rattle.cc_values.proofs.PieceLemmas.{split_found, split_whole}
use Rattle.cc_values.proofs.split.split_at_first.Goals as goal

pub returns-in-Some-clause-parts : goal.returns-in-Some-clause-parts
returns-in-Some-clause-parts c =
    (split_found (λ byte. byte == c.args.separator) c.args.text.now c.in-Some.at (sym c.in-Some.ensures)).1

pub returns-in-None-clause-whole : goal.returns-in-None-clause-whole
returns-in-None-clause-whole c = split_whole (λ byte. byte == c.args.separator) c.args.text.now (sym c.in-None.ensures)
