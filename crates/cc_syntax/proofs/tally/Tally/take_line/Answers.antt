use Rattle.std.proofs.Common.{rules}
use Rattle.cc_syntax.proofs.TallyLemmas.{line_taken}
use Rattle.cc_syntax.proofs.tally.Tally.take_line.Goals as goal

pub returns : goal.returns
returns c opening exchanges line reply is was = line_taken opening exchanges line reply c.args.self.now _ (search rules) is was
