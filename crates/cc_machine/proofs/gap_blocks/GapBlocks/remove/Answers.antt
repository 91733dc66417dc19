use Rattle.std.proofs.Common.{rules, arith, ap, ◌∙◌, ◌≡◌, ◌<◌, length, get_or, List, vec_capacity}
use Rattle.std.proofs.lemmas.Grind.{get_or_default_zero}
use Rattle.std.proofs.lemmas.List.{length-map}
use Rattle.cc_bounds.specs.declared.span.Span.{Span}
use Rattle.cc_machine.specs.GapBlocks.{gaps_under}
use Rattle.cc_machine.proofs.GapBlocksLemmas.{is_row_taken, row_taken}
use Rattle.cc_machine.proofs.gap_blocks.GapBlocks.remove.Goals as goal

pub invariant_of-self : goal.invariant_of-self
invariant_of-self c =
    let within : c.args.at < length c.self.inside.keys.items
    = omega (arith, rw (← c.self.view_is) at c.requires, length-map c.self.inside.keys.items (gaps_under c.self.inside.blocks)) in
    let key : c.remove-key.result ≡ get_or c.self.inside.keys.items c.args.at 0
    = c.remove-key.ensures.value ∙ get_or_default_zero c.self.inside.keys.items c.args.at c.remove-key.result within in
    rw c.remove-key.ensures.items
    (is_row_taken c.self.inside.blocks c.remove.new.self c.self.inside.keys.items c.self.inside.room
    (vec_capacity c.self.inside.keys) c.args.at c.self.invariant within (rw key at c.remove.ensures.updates)
    (vec_capacity c.remove-key.new.self) c.remove.ensures.len c.remove.ensures.capacity (search rules))

pub returns-clause-row : goal.returns-clause-row
returns-clause-row c =
    let within : c.args.at < length c.self.inside.keys.items
    = omega (arith, rw (← c.self.view_is) at c.requires, length-map c.self.inside.keys.items (gaps_under c.self.inside.blocks)) in
    let key : c.remove-key.result ≡ get_or c.self.inside.keys.items c.args.at 0
    = c.remove-key.ensures.value ∙ get_or_default_zero c.self.inside.keys.items c.args.at c.remove-key.result within in
    rw (← c.self.view_is, c.remove-key.ensures.items)
    (ap (λ (blocks : List (List Span)). record { blocks = blocks; room = c.self.inside.room })
    (row_taken c.self.inside.blocks c.remove.new.self c.self.inside.keys.items c.self.inside.room
    (vec_capacity c.self.inside.keys) c.args.at c.self.invariant within (rw key at c.remove.ensures.updates)))
