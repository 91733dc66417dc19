use Rattle.std.proofs.Common.{arith, ap, length}
use Rattle.cc_machine.specs.GapRowState.{GapRowState, gaps_of, index_at}
use Rattle.cc_machine.proofs.GapRowLemmas.{place_most, row_insert, same_place, some_insert}
use Rattle.cc_machine.proofs.gap_row.GapRow.insert_apart.Goals as goal

pub insert_with_room-requires-clause-some : goal.insert_with_room-requires-clause-some
insert_with_room-requires-clause-some c =
    some_insert _ _ c.args.gap c.requires.order (place_most c.args.self.now.blocks c.args.place.block c.args.place.at c.requires.place)

pub insert_with_room-requires-2-clause-some : goal.insert_with_room-requires-2-clause-some
insert_with_room-requires-2-clause-some c =
    some_insert _ _ c.args.gap c.requires.order (place_most c.args.self.now.blocks c.args.place.block c.args.place.at c.requires.place)

pub invariant_of-self-2 : goal.invariant_of-self-2
invariant_of-self-2 c =
    let blocks = ap (λ (s : GapRowState). s.blocks) c.self.view_is in
    let order = rw (← blocks) at c.requires.order in
    let place = rw (← blocks) at c.requires.place in
    let within = place_most c.self.inside.blocks.blocks c.args.place.block c.args.place.at place in
    let located = rw c.join_two.ensures.gaps at c.locate_in.ensures.located in
    let same = same_place (gaps_of c.self.inside.blocks.blocks) c.args.gap
    (index_at c.self.inside.blocks.blocks c.args.place.block c.args.place.at)
    (index_at c.join_two.new.blocks.blocks c.locate_in.result.0.block c.locate_in.result.0.at) order within
    c.self.invariant.are_gaps located in
    let gaps = rw (c.join_two.ensures.gaps, same) at c.insert_with_room-2.ensures.gaps in
    rw (c.insert_with_room-2.ensures.room, c.insert_with_room-2.ensures.heads_room, c.join_two.ensures.room, c.join_two.ensures.heads_room)
    (row_insert c.self.inside.blocks.blocks c.insert_with_room-2.new.blocks.blocks c.self.inside.heads.heads
    c.insert_with_room-2.new.heads.heads c.self.inside.room c.self.inside.blocks.room c.self.inside.heads.room
    (index_at c.self.inside.blocks.blocks c.args.place.block c.args.place.at) c.args.gap c.self.invariant
    c.insert_with_room-2.ensures.headed
    (omega (arith, c.insert_with_room-2.ensures.fits, c.insert_with_room-2.ensures.room, c.join_two.ensures.room))
    within (omega (arith, c.requires.room, ap (λ (s : GapRowState). length (gaps_of s.blocks)) c.self.view_is, ap (λ (s : GapRowState). s.room) c.self.view_is))
    order gaps)

pub returns-clause-gaps : goal.returns-clause-gaps
returns-clause-gaps c =
    let blocks = ap (λ (s : GapRowState). s.blocks) c.self.view_is in
    let order = rw (← blocks) at c.requires.order in
    let place = rw (← blocks) at c.requires.place in
    let within = place_most c.self.inside.blocks.blocks c.args.place.block c.args.place.at place in
    let located = rw c.join_two.ensures.gaps at c.locate_in.ensures.located in
    let same = same_place (gaps_of c.self.inside.blocks.blocks) c.args.gap
    (index_at c.self.inside.blocks.blocks c.args.place.block c.args.place.at)
    (index_at c.join_two.new.blocks.blocks c.locate_in.result.0.block c.locate_in.result.0.at) order within
    c.self.invariant.are_gaps located in
    rw (← blocks) (rw (c.join_two.ensures.gaps, same) at c.insert_with_room-2.ensures.gaps)
