use Rattle.std.proofs.Common.{arith}
use Rattle.cc_placers.proofs.PlanCallLemmas.{replies_more}
use Rattle.cc_placers.proofs.plan_calls.plan_run.Goals as goal

pub loop-i-preserved : goal.loop-i-preserved
loop-i-preserved g c = record {
  replies = replies_more c.args.planner.now c.loop-i.planner c.reply_to.new.planner c.args.calls.now c.loop-i.replies
      c.loop-i.i _ c.reply_to.result
      c.loop-i-test.true (omega arith) c.loop-i.invariant.replies c.reply_to.ensures.reply;
  exact = c.reply_to.ensures.exact_objects;
  disjoint = c.reply_to.ensures.disjoint_objects;
}
