use Rattle.std.proofs.Common.{Contains, arith, rules, sym}
use Rattle.std.proofs.lemmas.List.Sorted.{IsPermutation-remove, IsPermutation-sym}
use Rattle.cc_placer.proofs.SameSpansLemmas.{is_among, same_fewer}
use Rattle.cc_placer.proofs.SortedLemmas.{AreKept, IsPosition, held_at, kept_remove}
use Rattle.cc_placers.proofs.sorted.SortedPlacerPlacer.give_back.Goals as goal

pub remove-requires : goal.remove-requires
remove-requires c =
    let at : IsPosition c.self.inside.spans.items c.args.span.base c.position_for-position.result = rw
    (← c.deref.ensures.value)
    (record {
      within = c.position_for-position.ensures.within;
      below = c.position_for-position.ensures.below;
      above =
          c.position_for-position.ensures.above;
    }) in
    let is_held : Contains c.self.inside.spans.items c.args.span = is_among _ _ (rw
    (← c.self.view_is) at c.requires.is_held) in
    let stands = held_at c.self.inside.spans.items c.args.span c.position_for-position.result
    c.self.invariant.in_order c.self.invariant.placer.held is_held at in
    omega (arith, stands.0)

pub invariant_of-self : goal.invariant_of-self
invariant_of-self c =
    let at : IsPosition c.self.inside.spans.items c.args.span.base c.position_for-position.result = rw
    (← c.deref.ensures.value)
    (record {
      within = c.position_for-position.ensures.within;
      below = c.position_for-position.ensures.below;
      above =
          c.position_for-position.ensures.above;
    }) in
    let is_held : Contains c.self.inside.spans.items c.args.span = is_among _ _ (rw
    (← c.self.view_is) at c.requires.is_held) in
    let stands = held_at c.self.inside.spans.items c.args.span c.position_for-position.result
    c.self.invariant.in_order c.self.invariant.placer.held is_held at in
    let kept : AreKept c.remove.new.self.items =
    kept_remove c.self.inside.spans.items c.remove.new.self.items c.position_for-position.result c.args.span
    stands.0 c.remove.ensures.items c.self.invariant.placer.held c.self.invariant.in_order in
    record {
      placer = record {
        at_most = search rules;
        reserved = search rules;
        few = search rules;
        pool = search rules;
        held = kept.held;
      };
      in_order = kept.in_order;
    }

pub returns-clause-held : goal.returns-clause-held
returns-clause-held c spans fewer same among removes =
    let at : IsPosition c.self.inside.spans.items c.args.span.base c.position_for-position.result = rw
    (← c.deref.ensures.value)
    (record {
      within = c.position_for-position.ensures.within;
      below = c.position_for-position.ensures.below;
      above =
          c.position_for-position.ensures.above;
    }) in
    let is_held : Contains c.self.inside.spans.items c.args.span = is_among _ _ (rw
    (← c.self.view_is) at c.requires.is_held) in
    let stands = held_at c.self.inside.spans.items c.args.span c.position_for-position.result
    c.self.invariant.in_order c.self.invariant.placer.held is_held at in
    same_fewer c.self.inside.spans.items spans c.remove.new.self.items fewer c.args.span
    (rw (← c.self.view_is) at same)
    (rw (c.remove.ensures.items)
    (IsPermutation-sym _ _ (IsPermutation-remove c.self.inside.spans.items c.position_for-position.result c.args.span
    stands.0 (sym stands.1)))) removes
