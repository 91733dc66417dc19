use Rattle.std.proofs.Common.{rules, ◌<◌, ◌≢◌, length, arith, get_or-set_other, get_or-set_same, below_more}
use Rattle.cc_draw.proofs.map.map_row.Goals as goal

pub loop-index-preserved : goal.loop-index-preserved
loop-index-preserved c =
    let kept = c.loop-index.invariant in
    record {
      count = search rules;
      tells =
          below_more _ _
          (λ k h. let ne : k ≢ c.loop-index.index = omega arith in rw get_or-set_other (kept.tells k h))
          (let lt : c.loop-index.index < length c.loop-index.row = omega (arith, kept.count) in rw get_or-set_same c.mark_of.ensures);
    }
