use Rattle.cc_replay.proofs.StartLemmas.{ltrace_start}
use Rattle.cc_replay.proofs.ltrace.read_ltrace.Goals as goal

-- Only the first 129 bytes of a line matter, however it is read.
pub returns-clause-start : goal.returns-clause-start
returns-clause-start c = ltrace_start c.args.line.now
