-- Runs of calls of a planner.
use Rattle.std.specs.Prelude.{ℕ, ◌≡◌, ◌≤◌, ◌^◌, List, [], ◌∷◌, Result, Ok, Err}
use Rattle.cc_word.specs.declared.refusal.Refusal.{Refusal}
use Rattle.cc_placers.specs.declared.plan_calls.PlanCall.{PlanCall}
use Rattle.cc_placers.specs.declared.plan_calls.PlanCall.TheVariants.{Alloc, Free, Sweep}
use Rattle.cc_placers.specs.declared.plan_calls.PlanReply.{PlanReply}
use Rattle.cc_placers.specs.declared.plan_calls.PlanReply.TheVariants.{Placed, Freed, Swept, Refused}
use Rattle.cc_plan.specs.Plan.{Allocated, PlanAllocates, PlanFrees, Plan, PlanSweeps}

-- IsWithinLimit holds if a size is at most the size of the address space.
abbrev pub IsWithinLimit : PlanCall → Type 0
IsWithinLimit (Alloc size) = size ≤ 2 ^ 64
IsWithinLimit (Free object) = Unit {0}
IsWithinLimit Sweep = Unit {0}

-- The reply with the result of `alloc`.
abbrev pub reply_to_alloc : Allocated → PlanReply
reply_to_alloc (Ok made) = Placed made.0 made.1
reply_to_alloc (Err refusal) = Refused refusal

-- The reply with the result of `free`.
abbrev pub reply_to_free : Result Unit Refusal → PlanReply
reply_to_free (Ok done) = Freed
reply_to_free (Err refusal) = Refused refusal

-- IsReply holds if the call is made by its rule, and the reply has its result.
abbrev pub IsReply : Plan → PlanCall → PlanReply → Plan → Type 0
IsReply old (Alloc size) reply new =
    (result : Allocated) × PlanAllocates old size result new × (reply ≡ reply_to_alloc result)
IsReply old (Free object) reply new =
    (result : Result Unit Refusal) × PlanFrees old object.0 result new × (reply ≡ reply_to_free result)
IsReply old Sweep reply new = (count : ℕ) × PlanSweeps old count new × (reply ≡ Swept count)

-- AreReplies holds if the calls are made in order, each from the plan that the one before left.
abbrev pub AreReplies : Plan → List PlanCall → List PlanReply → Plan → Type 0
AreReplies old [] [] new = new ≡ old
AreReplies old (call ∷ calls) (reply ∷ replies) new =
    (next : Plan) × IsReply old call reply next × AreReplies next calls replies new
AreReplies old _ _ new = ⊥
