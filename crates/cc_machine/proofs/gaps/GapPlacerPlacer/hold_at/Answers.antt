use Rattle.std.proofs.Common.{◌-◌, arith, refl}
use Rattle.cc_machine.specs.GapRowState.{gaps_in}
use Rattle.cc_machine.proofs.GapPlacerLemmas.{CanTake, can_take, holds_more}
use Rattle.cc_machine.proofs.gaps.GapPlacerPlacer.hold_at.Goals as goal

pub take-requires : goal.take-requires
take-requires c =
    let can : CanTake (c.self.inside.row.room - 1) c.self.inside.count (gaps_in c.self.inside.row) c.args.span =
    can_take (c.self.inside.row.room - 1) c.self.inside.count c.self.inside.pool (gaps_in c.self.inside.row) c.args.span
    c.requires.not_empty (rw (← c.self.view_is) at c.requires.in_pool) (rw (← c.self.view_is) at c.requires.apart) in
    record {
      gaps = c.self.invariant.are_gaps;
      some = c.requires.not_empty;
      lies = can.lies;
      room = omega (arith, can.room, c.self.invariant.at_most);
    }

pub overflow_add-self : goal.overflow_add-self
overflow_add-self c =
    let can : CanTake (c.self.inside.row.room - 1) c.self.inside.count (gaps_in c.self.inside.row) c.args.span =
    can_take (c.self.inside.row.room - 1) c.self.inside.count c.self.inside.pool (gaps_in c.self.inside.row) c.args.span
    c.requires.not_empty (rw (← c.self.view_is) at c.requires.in_pool) (rw (← c.self.view_is) at c.requires.apart) in
    omega (arith, can.below, c.self.invariant.few)

pub invariant_of-self : goal.invariant_of-self
invariant_of-self c =
    let can : CanTake (c.self.inside.row.room - 1) c.self.inside.count (gaps_in c.self.inside.row) c.args.span =
    can_take (c.self.inside.row.room - 1) c.self.inside.count c.self.inside.pool (gaps_in c.self.inside.row) c.args.span
    c.requires.not_empty (rw (← c.self.view_is) at c.requires.in_pool) (rw (← c.self.view_is) at c.requires.apart) in
    record {
      at_most = omega (arith, c.take.ensures.room, can.below);
      few = omega (arith, c.take.ensures.room, c.self.invariant.few);
      is_pool = c.self.invariant.is_pool;
      are_gaps = c.take.ensures.gaps;
      none_before = λ none. absurd (rw none at (rw (← c.self.view_is) at c.requires.in_pool));
    }

pub returns-clause-held : goal.returns-clause-held
returns-clause-held c spans more may apart below adds =
    let held = holds_more (c.self.inside.row.room - 1) c.self.inside.count _ c.self.inside.pool (gaps_in c.self.inside.row)
    (gaps_in c.take.new.row) spans more c.args.span
    c.requires.not_empty (rw (← c.self.view_is) at c.requires.in_pool) refl (rw (← c.self.view_is) at may) adds
    c.take.ensures.gaps c.take.ensures.bytes in
    record { counted = held.counted; free = held.free }
