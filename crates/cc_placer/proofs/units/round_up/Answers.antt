use Rattle.cc_placer.proofs.PlacementLemmas.{least_multiple, multiple-div_ceil, without_remainder}
use Rattle.cc_placer.proofs.units.round_up.Goals as goal

pub returns-clause-aligned : goal.returns-clause-aligned
returns-clause-aligned c = (without_remainder c.args.n c.args.align c.from-align.result c.requires.some c.from-align.ensures).aligned

pub returns-clause-from : goal.returns-clause-from
returns-clause-from c = (without_remainder c.args.n c.args.align c.from-align.result c.requires.some c.from-align.ensures).from

pub returns-clause-near : goal.returns-clause-near
returns-clause-near c = (without_remainder c.args.n c.args.align c.from-align.result c.requires.some c.from-align.ensures).near

pub returns-clause-least : goal.returns-clause-least
returns-clause-least c other from multiple =
    least_multiple c.args.align c.args.n _ other c.requires.some (returns-clause-aligned c) multiple from
    (returns-clause-near c)

pub returns-clause-value : goal.returns-clause-value
returns-clause-value c =
    multiple-div_ceil c.args.align c.args.n _ c.requires.some (returns-clause-aligned c) (returns-clause-from c)
    (returns-clause-near c)
