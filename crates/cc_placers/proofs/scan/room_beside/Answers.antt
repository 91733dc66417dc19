use Rattle.std.proofs.Common.{arith, rules}
use Rattle.cc_placer.proofs.PlacementLemmas.{past_obstacle}
use Rattle.cc_placers.proofs.scan.room_beside.Goals as goal

pub loop-start-preserved : goal.loop-start-preserved
loop-start-preserved c = record {
  aligned = c.round_up-start-in-Some.ensures.aligned;
  from_base = omega (arith, c.in-Some.ensures.some.1.in_one.from_base, c.in-Some.ensures.some.1.in_other.below_top);
  none_below = λ place is_place.
      c.round_up-start-in-Some.ensures.least place
      (past_obstacle c.args.held.now c.in-Some.obstacle c.loop-start.start c.args.len place c.in-Some.ensures.some.0
      (search rules) c.requires.some
      (c.loop-start.invariant.none_below place is_place) is_place.apart)
      is_place.aligned;
}
