use Rattle.cc_replay.proofs.StartLemmas.{heaptrack_start}
use Rattle.cc_replay.proofs.heaptrack.read_heaptrack.Goals as goal

-- Only the first 129 bytes of a line matter, however it is read.
pub returns-in-empty-clause-start : goal.returns-in-empty-clause-start
returns-in-empty-clause-start c = heaptrack_start c.args.line.now

pub returns-in-len1-up-clause-start : goal.returns-in-len1-up-clause-start
returns-in-len1-up-clause-start c = heaptrack_start c.args.line.now

pub returns-in_default-clause-start : goal.returns-in_default-clause-start
returns-in_default-clause-start c = heaptrack_start c.args.line.now

pub returns-in-len1-up-2-clause-start : goal.returns-in-len1-up-2-clause-start
returns-in-len1-up-2-clause-start c = heaptrack_start c.args.line.now
