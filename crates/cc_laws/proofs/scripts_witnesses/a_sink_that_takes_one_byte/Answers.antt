use Rattle.cc_laws.proofs.ScriptWitnessLemmas.{after_lines, in_replies}
use Rattle.cc_laws.proofs.scripts_witnesses.a_sink_that_takes_one_byte.Goals as goal

pub returns-clause-in_replies : goal.returns-clause-in_replies
returns-clause-in_replies c = in_replies

pub returns-clause-after_lines : goal.returns-clause-after_lines
returns-clause-after_lines c = after_lines
