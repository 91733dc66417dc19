use Rattle.std.proofs.Common.{ap}
use Rattle.std.proofs.lemmas.List.{length-set}
use Rattle.cc_machine.specs.GapRowState.{GapRowState, index_at}
use Rattle.cc_machine.proofs.GapRowLemmas.{gaps_set, place_within, places_set, row_set, some_set}
use Rattle.cc_machine.proofs.gap_row.GapRow.set.Goals as goal

pub set_in-requires-clause-some : goal.set_in-requires-clause-some
set_in-requires-clause-some c = some_set _ _ c.args.gap c.requires.order c.requires.within

pub invariant_of-self : goal.invariant_of-self
invariant_of-self c =
    let blocks = ap (λ (s : GapRowState). s.blocks) c.self.view_is in
    let place = rw (← blocks) at c.requires.place in
    let inside = rw (← blocks) at c.requires.within in
    let within = place_within c.self.inside.blocks.blocks c.args.place.block c.args.place.at place inside in
    let gaps = gaps_set c.self.inside.blocks.blocks c.args.place.block c.args.place.at c.args.gap within (place.inside within) in
    rw (c.set_in.ensures.blocks, c.set_in.ensures.room, c.set_in.ensures.heads_room)
    (row_set c.self.inside.blocks.blocks _ c.self.inside.heads.heads c.set_in.new.heads.heads _ _ _
    (index_at c.self.inside.blocks.blocks c.args.place.block c.args.place.at) c.args.gap c.self.invariant
    (rw c.set_in.ensures.blocks at c.set_in.ensures.headed) (length-set _ _ _) (rw (← blocks) at c.requires.order) gaps)

pub returns-clause-gaps : goal.returns-clause-gaps
returns-clause-gaps c =
    let blocks = ap (λ (s : GapRowState). s.blocks) c.self.view_is in
    let place = rw (← blocks) at c.requires.place in
    let inside = rw (← blocks) at c.requires.within in
    let within = place_within c.self.inside.blocks.blocks c.args.place.block c.args.place.at place inside in
    rw (c.set_in.ensures.blocks, ← blocks)
    (gaps_set c.self.inside.blocks.blocks c.args.place.block c.args.place.at c.args.gap within (place.inside within))

pub returns-clause-places : goal.returns-clause-places
returns-clause-places c other =
    let blocks = ap (λ (s : GapRowState). s.blocks) c.self.view_is in
    let place = rw (← blocks) at c.requires.place in
    let inside = rw (← blocks) at c.requires.within in
    let within = place_within c.self.inside.blocks.blocks c.args.place.block c.args.place.at place inside in
    rw (c.set_in.ensures.blocks, ← blocks)
    (places_set c.self.inside.blocks.blocks c.args.place.block other.block other.at _ within (length-set _ _ _))
