use Rattle.std.proofs.Common.{take}
use Rattle.cc_plan.specs.Plan.{HaveDisjointBounds, HaveExactBounds}
use Rattle.cc_placers.specs.PlanCalls.{AreReplies}
use Rattle.cc_placers.proofs.plan_calls.plan_run.Given as goal

-- the calls so far have their replies, and what a planner keeps was kept
abbrev pub invariant-loop-i : goal.invariant-loop-i
invariant-loop-i g l = record {
  replies : AreReplies l.initial.planner (take l.i l.calls) (take l.i l.replies) l.planner;
  exact : HaveExactBounds l.planner;
  disjoint : HaveDisjointBounds l.planner.objects;
}
