use Rattle.std.proofs.Common.{arith, ap, length, remove, get_or, [], ◌≡◌}
use Rattle.std.proofs.lemmas.List.{length-set}
use Rattle.std.proofs.lemmas.List.Edits.{length-remove}
use Rattle.cc_machine.specs.GapRowState.{GapRowState, index_at}
use Rattle.cc_machine.proofs.GapRowLemmas.{gaps_remove, gaps_remove_block, length_of_block, place_within, places_removed, places_without, row_without}
use Rattle.cc_machine.proofs.gap_row.GapRow.remove.Goals as goal

pub remove_block-requires-clause-within : goal.remove_block-requires-clause-within
remove_block-requires-clause-within c =
    let blocks = ap (λ (s : GapRowState). s.blocks) c.self.view_is in
    let place = rw (← blocks) at c.requires.place in
    let inside = rw (← blocks) at c.requires.within in
    place_within c.self.inside.blocks.blocks c.args.place.block c.args.place.at place inside

pub invariant_of-self : goal.invariant_of-self
invariant_of-self c =
    let blocks = ap (λ (s : GapRowState). s.blocks) c.self.view_is in
    let place = rw (← blocks) at c.requires.place in
    let inside = rw (← blocks) at c.requires.within in
    let within = place_within c.self.inside.blocks.blocks c.args.place.block c.args.place.at place inside in
    let one : length (get_or c.self.inside.blocks.blocks c.args.place.block []) ≡ 1
    = omega (
      arith,
      length_of_block c.self.inside.blocks.blocks c.args.place.block c.at.result.now [] within c.at.ensures,
      c.len.ensures.value,
      c.if-len-eq1.true,
    ) in
    let first : c.args.place.at ≡ 0 = omega (arith, place.inside within, one) in
    let gaps = gaps_remove_block c.self.inside.blocks.blocks c.args.place.block within one in
    rw (c.remove_block.ensures.blocks, c.remove_block.ensures.room, c.remove_block.ensures.heads_room)
    (row_without c.self.inside.blocks.blocks (remove c.self.inside.blocks.blocks c.args.place.block) c.self.inside.heads.heads
    c.remove_block.new.heads.heads _ _ _ (index_at c.self.inside.blocks.blocks c.args.place.block 0)
    c.self.invariant
    (rw c.remove_block.ensures.blocks at c.remove_block.ensures.headed)
    (omega (arith, length-remove c.self.inside.blocks.blocks c.args.place.block within)) (rw first at inside) gaps)

pub invariant_of-self-else-len-eq1 : goal.invariant_of-self-else-len-eq1
invariant_of-self-else-len-eq1 c =
    let blocks = ap (λ (s : GapRowState). s.blocks) c.self.view_is in
    let place = rw (← blocks) at c.requires.place in
    let inside = rw (← blocks) at c.requires.within in
    let within = place_within c.self.inside.blocks.blocks c.args.place.block c.args.place.at place inside in
    let gaps = gaps_remove c.self.inside.blocks.blocks c.args.place.block c.args.place.at within (place.inside within) in
    rw (c.remove_in.ensures.blocks, c.remove_in.ensures.room, c.remove_in.ensures.heads_room)
    (row_without c.self.inside.blocks.blocks _ c.self.inside.heads.heads c.remove_in.new.heads.heads _ _ _
    (index_at c.self.inside.blocks.blocks c.args.place.block c.args.place.at) c.self.invariant
    (rw c.remove_in.ensures.blocks at c.remove_in.ensures.headed)
    (omega (arith, length-set c.self.inside.blocks.blocks c.args.place.block (remove (get_or c.self.inside.blocks.blocks c.args.place.block []) c.args.place.at)))
    inside gaps)

pub returns-then-len-eq1-clause-gaps : goal.returns-then-len-eq1-clause-gaps
returns-then-len-eq1-clause-gaps c =
    let blocks = ap (λ (s : GapRowState). s.blocks) c.self.view_is in
    let place = rw (← blocks) at c.requires.place in
    let inside = rw (← blocks) at c.requires.within in
    let within = place_within c.self.inside.blocks.blocks c.args.place.block c.args.place.at place inside in
    let one : length (get_or c.self.inside.blocks.blocks c.args.place.block []) ≡ 1
    = omega (
      arith,
      length_of_block c.self.inside.blocks.blocks c.args.place.block c.at.result.now [] within c.at.ensures,
      c.len.ensures.value,
      c.if-len-eq1.true,
    ) in
    let first : c.args.place.at ≡ 0 = omega (arith, place.inside within, one) in
    rw (c.remove_block.ensures.blocks, ← blocks, first)
    (gaps_remove_block c.self.inside.blocks.blocks c.args.place.block within one)

pub returns-then-len-eq1-clause-places : goal.returns-then-len-eq1-clause-places
returns-then-len-eq1-clause-places c other =
    let blocks = ap (λ (s : GapRowState). s.blocks) c.self.view_is in
    let place = rw (← blocks) at c.requires.place in
    let inside = rw (← blocks) at c.requires.within in
    let within = place_within c.self.inside.blocks.blocks c.args.place.block c.args.place.at place inside in
    let one : length (get_or c.self.inside.blocks.blocks c.args.place.block []) ≡ 1
    = omega (
      arith,
      length_of_block c.self.inside.blocks.blocks c.args.place.block c.at.result.now [] within c.at.ensures,
      c.len.ensures.value,
      c.if-len-eq1.true,
    ) in
    rw (c.remove_block.ensures.blocks, ← blocks)
    (places_without c.self.inside.blocks.blocks c.args.place.block c.args.place.at other.block other.at within one
    (place.inside within))

pub returns-else-len-eq1-clause-gaps : goal.returns-else-len-eq1-clause-gaps
returns-else-len-eq1-clause-gaps c =
    let blocks = ap (λ (s : GapRowState). s.blocks) c.self.view_is in
    let place = rw (← blocks) at c.requires.place in
    let inside = rw (← blocks) at c.requires.within in
    let within = place_within c.self.inside.blocks.blocks c.args.place.block c.args.place.at place inside in
    rw (c.remove_in.ensures.blocks, ← blocks)
    (gaps_remove c.self.inside.blocks.blocks c.args.place.block c.args.place.at within (place.inside within))

pub returns-else-len-eq1-clause-places : goal.returns-else-len-eq1-clause-places
returns-else-len-eq1-clause-places c other =
    let blocks = ap (λ (s : GapRowState). s.blocks) c.self.view_is in
    let place = rw (← blocks) at c.requires.place in
    let inside = rw (← blocks) at c.requires.within in
    let within = place_within c.self.inside.blocks.blocks c.args.place.block c.args.place.at place inside in
    rw (c.remove_in.ensures.blocks, ← blocks)
    (places_removed c.self.inside.blocks.blocks c.args.place.block c.args.place.at other.block other.at within
    (place.inside within))
