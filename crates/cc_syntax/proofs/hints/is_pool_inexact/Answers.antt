use Rattle.std.proofs.Common.{◌∙◌}
use Rattle.cc_word.specs.declared.refusal.Refusal.TheVariants.{Inexact}
use Rattle.cc_syntax.proofs.HintLemmas.{any_in_opening}
use Rattle.cc_syntax.proofs.hints.is_pool_inexact.Goals as goal

pub returns : goal.returns
returns c opening exchanges counts = c.is_in_opening.ensures ∙ any_in_opening opening exchanges Inexact _ (counts.counts Inexact _)
