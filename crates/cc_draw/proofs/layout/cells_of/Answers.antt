use Rattle.cc_draw.proofs.DrawingLemmas.{cells-are}
use Rattle.cc_draw.proofs.layout.cells_of.Goals as goal

pub returns-clause-exactly : goal.returns-clause-exactly
returns-clause-exactly c low held =
    rw (c.div_ceil-end.ensures, c.saturating_sub-2.ensures, c.saturating_sub.ensures, c.from.ensures) (cells-are c.args.start c.args.size c.args.span.now c.requires low held)
