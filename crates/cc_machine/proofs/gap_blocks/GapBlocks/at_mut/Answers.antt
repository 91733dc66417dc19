use Rattle.std.proofs.Common.{arith, refl, sym, ap, ◌∙◌, ◌≡◌, ◌<◌, length, get_or, List}
use Rattle.std.proofs.lemmas.Grind.{get_or_default_zero}
use Rattle.std.proofs.lemmas.List.{length-map}
use Rattle.cc_bounds.specs.declared.span.Span.{Span}
use Rattle.cc_machine.specs.GapBlocks.{gaps_in_slot, gaps_under}
use Rattle.cc_machine.proofs.GapBlocksLemmas.{row_written, under_key}
use Rattle.cc_machine.proofs.gap_blocks.GapBlocks.at_mut.Goals as goal

pub returns : goal.returns
returns c =
    let within : c.args.at < length c.self.inside.keys.items
    = omega (arith, rw (← c.self.view_is) at c.requires, length-map c.self.inside.keys.items (gaps_under c.self.inside.blocks)) in
    let key : c.index.result.now ≡ get_or c.self.inside.keys.items c.args.at 0
    = c.index.ensures ∙ get_or_default_zero c.self.inside.keys.items c.args.at c.index.result.now within in (
      (
        refl,
        λ w. rw (← c.self.view_is, key) (ap (λ (blocks : List (List Span)). record { blocks = blocks; room = c.self.inside.room })
            (row_written c.self.inside.blocks c.self.inside.keys.items c.self.inside.room _ c.args.at w c.self.invariant within)),
      ),
      record {
        writes_back = tt;
        value = rw (← c.self.view_is) (sym (under_key c.self.inside.blocks c.self.inside.keys.items c.args.at c.index_mut.result.now within
            ∙ ap gaps_in_slot (rw key at c.index_mut.ensures.value)));
      },
    )
