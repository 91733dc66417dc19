use Rattle.std.proofs.Common.{sym, ◌∙◌}
use Rattle.cc_machine.specs.GapRowState.{gaps_in, index_of}
use Rattle.cc_machine.proofs.GapChangeLemmas.{IsAround, around, never_the_end}
use Rattle.cc_machine.proofs.gaps.gap_around.Goals as goal

pub unreachable-requires : goal.unreachable-requires
unreachable-requires c =
    never_the_end (gaps_in c.args.row.now) (index_of c.args.row.now c.locate-gap.result.0) c.args.span c.requires.gaps
    c.requires.lies
    (record {
      within = c.locate-gap.ensures.within;
      below = c.locate-gap.ensures.below;
      above = c.locate-gap.ensures.above;
    }) c.requires.some (sym c.locate-gap.ensures.gap ∙ c.in_default-gap.is)

pub returns-clause-around : goal.returns-clause-around
returns-clause-around c =
    let it : IsAround (gaps_in c.args.row.now) (index_of c.args.row.now c.locate-gap.result.0) c.in-Some-gap.gap c.args.span =
    around _ _ _ _ c.requires.gaps c.requires.lies
    (record {
      within = c.locate-gap.ensures.within;
      below = c.locate-gap.ensures.below;
      above = c.locate-gap.ensures.above;
    }) c.requires.some (sym c.locate-gap.ensures.gap ∙ c.in-Some-gap.is) in
    record { from_base = it.from_base; to_top = it.to_top }
