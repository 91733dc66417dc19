use Rattle.cc_decode.proofs.AnnotatorLemmas.{after_found, after_none}
use Rattle.cc_decode.proofs.annotator.after.Goals as goal

pub returns-clause-found : goal.returns-clause-found
returns-clause-found c = after_found c.args.start.now c.args.text.now c.strip_prefix.result c.strip_prefix.ensures.cases

pub returns-clause-none : goal.returns-clause-none
returns-clause-none c = after_none c.args.start.now c.args.text.now c.strip_prefix.result c.strip_prefix.ensures.cases
