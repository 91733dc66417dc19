use Rattle.std.proofs.Common.{◌∙◌, ap, refl, sym}
use Rattle.cli.specs.Invocation.{kinds_in}
use Rattle.cli.proofs.reading.chosen.Goals as goal

pub returns-in-None-clause-read : goal.returns-in-None-clause-read
returns-in-None-clause-read c = (refl, sym c.choice_mistake.ensures ∙ c.in-None.is)

pub returns-in-None-clause-kinds : goal.returns-in-None-clause-kinds
returns-in-None-clause-kinds c = ap kinds_in (sym c.choice_mistake.ensures ∙ c.in-None.is)
