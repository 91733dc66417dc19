use Rattle.std.proofs.Common.{sym}
use Rattle.cc_replay.proofs.CutLemmas.{after_or_all_found, after_or_all_none}
use Rattle.cc_replay.proofs.cutting.after_or_all.Goals as goal

pub returns-in-Some : goal.returns-in-Some
returns-in-Some c = after_or_all_found c.args.at c.args.text.now c.in-Some.count (sym c.in-Some.ensures)

pub returns-in-None : goal.returns-in-None
returns-in-None c = after_or_all_none c.args.at c.args.text.now (sym c.in-None.ensures)
