use Rattle.cc_decode.proofs.AnnotatedLemmas.{annotated_pumped}
use Rattle.cc_decode.proofs.annotating.annotate.Goals as goal

pub returns : goal.returns
returns g c = annotated_pumped c.pump.new.answerer c.new-page.result _ _ _ _ _ c.new-page.ensures c.pump.ensures.outcome c.pump.ensures.pumps
