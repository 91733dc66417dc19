use Rattle.std.proofs.Common.{◌≡◌, ◌<◌, List, arith, rules, ap, insert, length, vec_capacity}
use Rattle.std.proofs.lemmas.List.Edits.{length-insert}
use Rattle.std.proofs.lemmas.List.Sorted.{IsPermutation-insert}
use Rattle.cc_bounds.specs.declared.span.Span.{Span}
use Rattle.cc_placer.specs.PlacerState.{IsSomeBytes}
use Rattle.cc_placer.proofs.SameSpansLemmas.{CanBeHeld, can_be_held, same_more}
use Rattle.cc_placer.proofs.SortedLemmas.{AreKept, IsPosition, kept_insert}
use Rattle.cc_placers.proofs.sorted.SortedPlacerPlacer.hold.Goals as goal

pub unwrap-requires : goal.unwrap-requires
unwrap-requires c =
    let can : CanBeHeld c.self.inside.spans.items c.self.inside.limit c.args.span = can_be_held _ _ _ (rw
    (← c.self.view_is) at c.requires.apart) in
    let below : length c.self.inside.spans.items < vec_capacity c.self.inside.spans =
    omega (arith, can.below_limit, c.self.invariant.placer.reserved) in
    search (rules, below)

pub invariant_of-self : goal.invariant_of-self
invariant_of-self c =
    let items : c.insert.new.self.items ≡ insert c.self.inside.spans.items c.position_for-position.result c.args.span
    = search rules in
    let at : IsPosition c.self.inside.spans.items c.args.span.base c.position_for-position.result = rw
    (← c.deref.ensures.value)
    (record {
      within = c.position_for-position.ensures.within;
      below = c.position_for-position.ensures.below;
      above =
          c.position_for-position.ensures.above;
    }) in
    let can : CanBeHeld c.self.inside.spans.items c.self.inside.limit c.args.span = can_be_held _ _ _ (rw
    (← c.self.view_is) at c.requires.apart) in
    let some : IsSomeBytes c.args.span = search rules in
    let kept : AreKept c.insert.new.self.items =
    kept_insert c.self.inside.spans.items c.insert.new.self.items c.position_for-position.result c.args.span items
    c.self.invariant.placer.held c.self.invariant.in_order some can.apart at in
    record {
      placer = record {
        at_most = omega (
          arith,
          can.below_limit,
          ap (λ (spans : List Span). length spans) items,
          length-insert c.self.inside.spans.items c.position_for-position.result c.args.span at.within,
        );
        reserved = search rules;
        few = search rules;
        pool = search rules;
        held = kept.held;
      };
      in_order = kept.in_order;
    }

pub returns-clause-held : goal.returns-clause-held
returns-clause-held c spans more same apart below adds =
    let items : c.insert.new.self.items ≡ insert c.self.inside.spans.items c.position_for-position.result c.args.span
    = search rules in
    same_more c.self.inside.spans.items spans c.insert.new.self.items more c.args.span (rw (← c.self.view_is) at same)
    (rw items (IsPermutation-insert c.self.inside.spans.items c.position_for-position.result c.args.span)) adds
