use Rattle.std.proofs.Common.{arith, ap, length, insert, get_or, []}
use Rattle.std.proofs.lemmas.List.{length-set}
use Rattle.cc_machine.specs.GapRowState.{GapRowState, gaps_of, index_at}
use Rattle.cc_machine.proofs.GapRowLemmas.{gaps_insert, place_most, row_insert, some_insert}
use Rattle.cc_machine.proofs.gap_row.GapRow.insert.Goals as goal

pub insert_in-requires-clause-some : goal.insert_in-requires-clause-some
insert_in-requires-clause-some c =
    some_insert _ _ c.args.gap c.requires.order (place_most c.args.self.now.blocks c.args.place.block c.args.place.at c.requires.place)

pub invariant_of-self : goal.invariant_of-self
invariant_of-self c =
    let blocks = ap (λ (s : GapRowState). s.blocks) c.self.view_is in
    let order = rw (← blocks) at c.requires.order in
    let place = rw (← blocks) at c.requires.place in
    let within = rw (← blocks) at (c.has_room_at.ensures.within c.if-has_room_at.true) in
    rw (c.insert_in.ensures.blocks, c.insert_in.ensures.room, c.insert_in.ensures.heads_room)
    (row_insert c.self.inside.blocks.blocks _ c.self.inside.heads.heads c.insert_in.new.heads.heads c.self.inside.room
    c.self.inside.blocks.room c.self.inside.heads.room
    (index_at c.self.inside.blocks.blocks c.args.place.block c.args.place.at) c.args.gap c.self.invariant
    (rw c.insert_in.ensures.blocks at c.insert_in.ensures.headed)
    (omega (arith, c.self.invariant.fits, length-set c.self.inside.blocks.blocks c.args.place.block (insert (get_or c.self.inside.blocks.blocks c.args.place.block []) c.args.place.at c.args.gap)))
    (place_most c.self.inside.blocks.blocks c.args.place.block c.args.place.at place)
    (omega (arith, c.requires.room, ap (λ (s : GapRowState). length (gaps_of s.blocks)) c.self.view_is, ap (λ (s : GapRowState). s.room) c.self.view_is))
    order
    (gaps_insert c.self.inside.blocks.blocks c.args.place.block c.args.place.at c.args.gap within (omega (arith, place.inside within))))

pub returns-then-has_room_at-clause-gaps : goal.returns-then-has_room_at-clause-gaps
returns-then-has_room_at-clause-gaps c =
    let blocks = ap (λ (s : GapRowState). s.blocks) c.self.view_is in
    let place = rw (← blocks) at c.requires.place in
    let within = rw (← blocks) at (c.has_room_at.ensures.within c.if-has_room_at.true) in
    rw (c.insert_in.ensures.blocks, ← blocks)
    (gaps_insert c.self.inside.blocks.blocks c.args.place.block c.args.place.at c.args.gap within (omega (arith, place.inside within)))
