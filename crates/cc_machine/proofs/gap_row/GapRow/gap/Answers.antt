use Rattle.std.proofs.Common.{arith, ap, sym, length}
use Rattle.cc_machine.specs.GapRowState.{GapRowState}
use Rattle.cc_machine.proofs.GapRowLemmas.{gap_read}
use Rattle.cc_machine.proofs.gap_row.GapRow.gap.Goals as goal

pub returns : goal.returns
returns c =
    let blocks = ap (λ (s : GapRowState). s.blocks) c.self.view_is in
    sym (gap_read c.args.self.now.blocks c.args.place.block c.args.place.at c.at.result.now c.at-2.result
    (omega (arith, c.requires.within, c.if-place-len.false, c.len.ensures.value, ap (λ (s : GapRowState). length s.blocks) c.self.view_is))
    (c.requires.inside (omega (arith, c.requires.within, c.if-place-len.false, c.len.ensures.value, ap (λ (s : GapRowState). length s.blocks) c.self.view_is)))
    (rw blocks at c.at.ensures) c.at-2.ensures.value)
