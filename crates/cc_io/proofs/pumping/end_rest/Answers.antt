use Rattle.std.proofs.Common.{◌∙◌, sym}
use Rattle.cc_io.proofs.EngineLemmas.{ends_none, ends_some}
use Rattle.cc_io.proofs.pumping.end_rest.Goals as goal

pub returns-then-is_empty : goal.returns-then-is_empty
returns-then-is_empty g c = ends_none _ _ _ _ (sym c.is_empty.ensures ∙ c.if-is_empty.true) c.requires.empty

pub returns : goal.returns
returns g c = ends_some _ _ _ _ _ _ _ (sym c.is_empty.ensures ∙ c.if-is_empty.false) c.requires.empty c.end.ensures
