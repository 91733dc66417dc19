use Rattle.std.proofs.Common.{rules, sym}
use Rattle.cc_syntax.proofs.TallyLemmas.{line_refused, unmarked}
use Rattle.cc_syntax.proofs.tally.Tally.take_refused.Goals as goal

pub returns-then-starts_with : goal.returns-then-starts_with
returns-then-starts_with c opening exchanges line start was =
    line_refused opening exchanges line c.args.refusal c.args.self.now _ (search rules) c.add_reply.ensures (search rules) (search rules) (search rules) was

pub returns-else-starts_with : goal.returns-else-starts_with
returns-else-starts_with c opening exchanges line start was =
    line_refused opening exchanges line c.args.refusal c.args.self.now _ (search rules) c.add_reply.ensures (search rules) (search rules)
    (rw (sym start, unmarked c.args.start.now (search rules)) (search rules))
    was
