use Rattle.cc_laws.proofs.ScriptPartLemmas.{in_parts, feed_ends}
use Rattle.cc_laws.proofs.script_laws.output_in_parts.Goals as goal

pub returns-clause-parts : goal.returns-clause-parts
returns-clause-parts c = in_parts

pub returns-clause-line_feed : goal.returns-clause-line_feed
returns-clause-line_feed c = feed_ends
