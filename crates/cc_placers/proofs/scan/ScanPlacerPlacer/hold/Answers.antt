use Rattle.std.proofs.Common.{arith, rules}
use Rattle.std.proofs.lemmas.List.Elements.{All-push}
use Rattle.std.proofs.lemmas.List.Sorted.{IsPermutation-to_front, IsPermutation-sym}
use Rattle.cc_placer.specs.PlacerState.{IsSomeBytes}
use Rattle.cc_placer.proofs.SameSpansLemmas.{CanBeHeld, can_be_held, same_more}
use Rattle.cc_placers.proofs.scan.ScanPlacerPlacer.hold.Goals as goal

pub push_reserved-requires : goal.push_reserved-requires
push_reserved-requires c =
    let can : CanBeHeld c.self.inside.spans.items c.self.inside.limit c.args.span = can_be_held _ _ _ (rw
    (← c.self.view_is) at c.requires.apart) in
    omega (arith, can.below_limit, c.self.invariant.reserved)

pub invariant_of-self : goal.invariant_of-self
invariant_of-self c =
    let can : CanBeHeld c.self.inside.spans.items c.self.inside.limit c.args.span = can_be_held _ _ _ (rw
    (← c.self.view_is) at c.requires.apart) in
    let some : IsSomeBytes c.args.span = search rules in
    record {
      at_most = omega (arith, can.below_limit, c.push_reserved.ensures.len);
      reserved = search rules;
      few = search rules;
      pool = search rules;
      held = rw c.push_reserved.ensures.items (All-push IsSomeBytes c.self.inside.spans.items c.args.span
          c.self.invariant.held some);
    }

pub returns-clause-held : goal.returns-clause-held
returns-clause-held c spans more same apart below adds =
    rw (c.push_reserved.ensures.items)
    (same_more c.self.inside.spans.items spans _ more c.args.span (rw (← c.self.view_is) at same)
    (IsPermutation-sym _ _ (IsPermutation-to_front c.self.inside.spans.items c.args.span)) adds)
