use Rattle.std.proofs.Common.{rules, arith, ap, ◌≡◌, ◌≤◌, length, insert, List, vec_capacity}
use Rattle.std.proofs.lemmas.List.{length-map}
use Rattle.cc_bounds.specs.declared.span.Span.{Span}
use Rattle.cc_machine.specs.GapBlocks.{gaps_under}
use Rattle.cc_machine.proofs.GapBlocksLemmas.{is_row_put, row_put}
use Rattle.cc_machine.proofs.gap_blocks.GapBlocks.insert.Goals as goal

pub invariant_of-self : goal.invariant_of-self
invariant_of-self c =
    let long = length-map c.self.inside.keys.items (gaps_under c.self.inside.blocks) in
    let within : c.args.at ≤ length c.self.inside.keys.items = omega (arith, rw (← c.self.view_is) at c.requires.within, long) in
    let items : c.insert.new.self.items ≡ insert c.self.inside.keys.items c.args.at c.insert_reserved-key.result = search rules in
    rw items
    (is_row_put c.self.inside.blocks c.insert_reserved-key.new.self c.self.inside.keys.items c.self.inside.room
    (vec_capacity c.self.inside.keys) c.args.at c.insert_reserved-key.result c.args.block c.self.invariant within
    c.insert_reserved-key.ensures.was_vacant c.insert_reserved-key.ensures.updates (vec_capacity c.insert.new.self)
    (omega (arith, rw (← c.self.view_is) at c.requires.room, long)) c.insert_reserved-key.ensures.len
    c.insert_reserved-key.ensures.capacity (search rules))

pub returns-clause-row : goal.returns-clause-row
returns-clause-row c =
    let long = length-map c.self.inside.keys.items (gaps_under c.self.inside.blocks) in
    let within : c.args.at ≤ length c.self.inside.keys.items = omega (arith, rw (← c.self.view_is) at c.requires.within, long) in
    let items : c.insert.new.self.items ≡ insert c.self.inside.keys.items c.args.at c.insert_reserved-key.result = search rules in
    rw (← c.self.view_is, items)
    (ap (λ (blocks : List (List Span)). record { blocks = blocks; room = c.self.inside.room })
    (row_put c.self.inside.blocks c.insert_reserved-key.new.self c.self.inside.keys.items c.self.inside.room
    (vec_capacity c.self.inside.keys) c.args.at c.insert_reserved-key.result c.args.block c.self.invariant within
    c.insert_reserved-key.ensures.was_vacant c.insert_reserved-key.ensures.updates))
