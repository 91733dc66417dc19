use Rattle.std.proofs.Common.{◌-◌, arith}
use Rattle.cc_machine.specs.GapRowState.{gaps_in}
use Rattle.cc_machine.proofs.GapPlacerLemmas.{CanGive, can_give, holds_fewer}
use Rattle.cc_machine.proofs.gaps.GapPlacerPlacer.give_back.Goals as goal

pub give-requires : goal.give-requires
give-requires c =
    let can : CanGive (c.self.inside.row.room - 1) c.self.inside.count c.self.inside.pool (gaps_in c.self.inside.row) c.args.span =
    can_give (c.self.inside.row.room - 1) c.self.inside.count c.self.inside.pool (gaps_in c.self.inside.row) c.args.span
    c.self.invariant.is_pool (omega (arith, c.self.invariant.at_most)) (rw (← c.self.view_is) at c.requires.is_held) in
    record {
      gaps = c.self.invariant.are_gaps;
      some = can.some;
      apart = can.apart;
      room = λ more are bytes. omega (arith, can.room more are bytes, c.self.invariant.at_most);
    }

pub overflow_sub-self : goal.overflow_sub-self
overflow_sub-self c =
    let can : CanGive (c.self.inside.row.room - 1) c.self.inside.count c.self.inside.pool (gaps_in c.self.inside.row) c.args.span =
    can_give (c.self.inside.row.room - 1) c.self.inside.count c.self.inside.pool (gaps_in c.self.inside.row) c.args.span
    c.self.invariant.is_pool (omega (arith, c.self.invariant.at_most)) (rw (← c.self.view_is) at c.requires.is_held) in
    omega (arith, can.counted)

pub invariant_of-self : goal.invariant_of-self
invariant_of-self c =
    let can : CanGive (c.self.inside.row.room - 1) c.self.inside.count c.self.inside.pool (gaps_in c.self.inside.row) c.args.span =
    can_give (c.self.inside.row.room - 1) c.self.inside.count c.self.inside.pool (gaps_in c.self.inside.row) c.args.span
    c.self.invariant.is_pool (omega (arith, c.self.invariant.at_most)) (rw (← c.self.view_is) at c.requires.is_held) in
    record {
      at_most = omega (arith, c.give.ensures.room, c.self.invariant.at_most);
      few = omega (arith, c.give.ensures.room, c.self.invariant.few);
      is_pool = c.self.invariant.is_pool;
      are_gaps = c.give.ensures.gaps;
      none_before = λ none. absurd (can.has_pool none);
    }

pub returns-clause-held : goal.returns-clause-held
returns-clause-held c spans fewer may among removes =
    let can : CanGive (c.self.inside.row.room - 1) c.self.inside.count c.self.inside.pool (gaps_in c.self.inside.row) c.args.span =
    can_give (c.self.inside.row.room - 1) c.self.inside.count c.self.inside.pool (gaps_in c.self.inside.row) c.args.span
    c.self.invariant.is_pool (omega (arith, c.self.invariant.at_most)) (rw (← c.self.view_is) at c.requires.is_held) in
    let held = holds_fewer (c.self.inside.row.room - 1) c.self.inside.count _ c.self.inside.pool (gaps_in c.self.inside.row)
    (gaps_in c.give.new.row) spans fewer c.args.span
    (omega (arith, can.counted)) (rw (← c.self.view_is) at may) among removes c.give.ensures.gaps c.give.ensures.bytes in
    record { counted = held.counted; free = held.free }
