-- Runs with one call more.
use Rattle.std.proofs.Common.{ℕ, ◌+◌, ◌<◌, List, [], ◌∷◌, ◌++◌, length, take, get_or, set, refl, subst}
use Rattle.std.proofs.lemmas.List.{take_more, take_more_set}
use Rattle.cc_placers.specs.declared.plan_calls.PlanCall.{PlanCall}
use Rattle.cc_placers.specs.declared.plan_calls.PlanReply.{PlanReply}
use Rattle.cc_plan.specs.Plan.{Plan}
use Rattle.cc_placers.specs.PlanCalls.{AreReplies, IsReply}

replies_push : (old mid new : Plan) (calls : List PlanCall) (replies : List PlanReply) (call : PlanCall)
    (reply : PlanReply)
    → AreReplies old calls replies mid → IsReply mid call reply new
    → AreReplies old (calls ++ call ∷ []) (replies ++ reply ∷ []) new
replies_push old mid new [] [] call reply same one = (
  new,
  subst (λ
      (plan : Plan). IsReply plan call reply new) same one,
  refl,
)
replies_push old mid new [] (r ∷ rs) call reply never one = absurd never
replies_push old mid new (c ∷ cs) [] call reply never one = absurd never
replies_push old mid new (c ∷ cs) (r ∷ rs) call reply (next, first, rest) one =
    (next, first, replies_push next mid new cs rs call reply rest one)

pub replies_more : (old mid new : Plan) (calls : List PlanCall) (replies : List PlanReply) (i : ℕ) (d : PlanCall)
    (reply : PlanReply)
    → i < length calls → i < length replies → AreReplies old (take i calls) (take i replies) mid
    → IsReply mid (get_or calls i d) reply new
    → AreReplies old (take (i + 1) calls) (take (i + 1) (set replies i reply)) new
replies_more old mid new calls replies i d reply within within' so_far one =
    rw (take_more calls i d within, take_more_set replies i reply within')
    (replies_push old mid new (take i calls) (take i replies) (get_or calls i d) reply so_far one)
