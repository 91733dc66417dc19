use Rattle.cc_replay.proofs.StartLemmas.{mtrace_start}
use Rattle.cc_replay.proofs.mtrace.read_mtrace.Goals as goal

-- Only the first 129 bytes of a line matter, however it is read.
pub returns-in_default-clause-start : goal.returns-in_default-clause-start
returns-in_default-clause-start c = mtrace_start c.args.line.now

pub returns-in-64-clause-start : goal.returns-in-64-clause-start
returns-in-64-clause-start c = mtrace_start c.args.line.now

pub returns-in_default-2-clause-start : goal.returns-in_default-2-clause-start
returns-in_default-2-clause-start c = mtrace_start c.args.line.now

pub returns-in-empty-clause-start : goal.returns-in-empty-clause-start
returns-in-empty-clause-start c = mtrace_start c.args.line.now

pub returns-in-empty-2-clause-start : goal.returns-in-empty-2-clause-start
returns-in-empty-2-clause-start c = mtrace_start c.args.line.now

pub returns-in-empty-3-clause-start : goal.returns-in-empty-3-clause-start
returns-in-empty-3-clause-start c = mtrace_start c.args.line.now

pub returns-in-empty-4-clause-start : goal.returns-in-empty-4-clause-start
returns-in-empty-4-clause-start c = mtrace_start c.args.line.now
