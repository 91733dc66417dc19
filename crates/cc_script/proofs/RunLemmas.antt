-- The effect of a run of commands on the machine.
use Rattle.std.proofs.Common.{ℕ, Bool, List, [], ◌∷◌, subst, Result, Ok, Err}
use Rattle.cc_values.specs.declared.reply.Reply.{Reply}
use Rattle.cc_word.specs.declared.refusal.Refusal.{Refusal}
use Rattle.cc_values.specs.declared.op.Op.{Op}
use Rattle.cc_machine.specs.State.{State}
use Rattle.cc_machine.specs.Run.{Run, IsReached}
use Rattle.cc_machine.specs.Safety.{IsSafe}
use Rattle.cc_machine.specs.Confinement.{RunsWithin, IsConfined}
use Rattle.cc_machine.proofs.RunLemmas.{IsReached-run}
use Rattle.cc_machine.proofs.TreeLemmas.{Keeps-reached, IsMonotonicTree-reached, HasSealingAuthority-reached}
use Rattle.cc_machine.proofs.ObjectLawLemmas.{IsSafe-reached, KeepsObjectLaws-reached}
use Rattle.cc_machine.proofs.ReachLemmas.{ReachesAll-run}
use Rattle.cc_machine.proofs.ConfinementLemmas.{IsConfined-run}
use Rattle.cc_machine.proofs.ObjectConfinementLemmas.{confined-to-object}
use Rattle.cc_machine.specs.declared.object.Object.{Object}
use Rattle.cc_machine.specs.Objects.{IsHeldObject}
use Rattle.cc_machine.specs.ObjectConfinement.{AreOfObject, IsConfinedToObject}
use Rattle.cc_script.specs.Output.{Takes, TakesAll, with_operation, with_reply, operations_among, operation_replies}
use Rattle.cc_script.specs.Main.{IsBetween}
use Rattle.cc_script.specs.Laws.{TakesWithin, TakesAllWithin, KeepsLaws}

-- ---- the operations among commands

-- A command that is taken, and then a run.
runs_command : (a b c : State) (command : Result Op Refusal) (reply : Reply) (ops : List Op) (replies : List Reply)
    → Takes a command reply b → Run b ops replies c → Run a (with_operation command ops) (with_reply command reply replies) c
runs_command a b c (Ok op) reply ops replies t r = (b, t, r)
runs_command a b c (Err refusal) reply ops replies t r = subst (λ (s : State). Run s ops replies c) t.1 r

-- Commands that are taken run their operations.
pub commands_run : (a b : State) (commands : List (Result Op Refusal)) (replies : List Reply) → TakesAll a commands replies b
    → Run a (operations_among commands) (operation_replies commands replies) b
commands_run a b [] [] t = t
commands_run a b [] (reply ∷ replies) t = absurd t
commands_run a b (command ∷ commands) [] t = absurd t
commands_run a b (command ∷ commands) (reply ∷ replies) t =
    runs_command a t.0 b command reply (operations_among commands) (operation_replies commands replies) t.1
    (commands_run t.0 b commands replies t.2)

-- Commands that are taken lead from a reached state to a reached state.
pub commands_reach : (a b : State) (commands : List (Result Op Refusal)) (replies : List Reply) → IsReached a → TakesAll a commands replies b → IsReached b
commands_reach a b commands replies reached t =
    IsReached-run a b (operations_among commands) (operation_replies commands replies) reached (commands_run a b commands replies t)

-- ---- commands that use only given slots

within_command : (given : ℕ → Bool) (start a b c : State) (command : Result Op Refusal) (reply : Reply) (ops : List Op) (replies : List Reply)
    → TakesWithin given start a command reply b → RunsWithin given start b ops replies c
    → (all : List Reply) × RunsWithin given start a (with_operation command ops) all c
within_command given start a b c (Ok op) reply ops replies t r = (reply ∷ replies, (b, t, r))
within_command given start a b c (Err refusal) reply ops replies t r =
    (replies, subst (λ (s : State). RunsWithin given start s ops replies c) t.1 r)

-- Commands that use only given slots run operations that do.
commands_within : (given : ℕ → Bool) (start a b : State) (commands : List (Result Op Refusal)) (replies : List Reply)
    → TakesAllWithin given start a commands replies b → (all : List Reply) × RunsWithin given start a (operations_among commands) all b
commands_within given start a b [] [] t = ([], t)
commands_within given start a b [] (reply ∷ replies) t = absurd t
commands_within given start a b (command ∷ commands) [] t = absurd t
commands_within given start a b (command ∷ commands) (reply ∷ replies) t =
    let r = commands_within given start t.0 b commands replies t.2 in
    within_command given start a t.0 b command reply (operations_among commands) r.0 t.1 r.1

commands_confined : (given : ℕ → Bool) (a b : State) (commands : List (Result Op Refusal)) (replies : List Reply) → IsReached a
    → TakesAllWithin given a a commands replies b → IsConfined given a b
commands_confined given a b commands replies reached t =
    let r = commands_within given a a b commands replies t in
    IsConfined-run given a b (operations_among commands) r.0 (Keeps-reached a reached) r.1

pub commands_confined_to_object : (given : ℕ → Bool) (a b : State) (commands : List (Result Op Refusal)) (replies : List Reply)
    (number : ℕ) (object : Object) → IsReached a → IsHeldObject a number object → AreOfObject given a object
    → TakesAllWithin given a a commands replies b → IsConfinedToObject a b number object
commands_confined_to_object given a b commands replies number object reached held own t =
    let r = commands_within given a a b commands replies t in
    confined-to-object given a b (operations_among commands) r.0 number object reached held own r.1

-- Each state between commands is safe, if the first of all is a reached one.
pub between_safe : (old : State) (commands : List (Result Op Refusal)) (state : State) → IsReached old → IsBetween old commands state → IsSafe state
between_safe old commands state reached between =
    IsSafe-reached state (commands_reach old state between.taken between.replies reached between.takes)

-- Machines are in reached states, and these keep the laws.
pub laws_kept : (a b : State) → IsReached a → IsReached b → KeepsLaws a b
laws_kept a b before after = record {
  tree = IsMonotonicTree-reached b after;
  sealing = HasSealingAuthority-reached b after;
  objects = KeepsObjectLaws-reached b after;
  confined = λ given commands replies within. commands_confined given a b commands replies before within;
  reaches = λ commands replies run. ReachesAll-run a b (operations_among commands) replies (Keeps-reached a before) run;
}

-- A machine that is between two commands keeps the laws.
pub laws_after : (old new : State) (commands : List (Result Op Refusal)) → IsReached old → IsBetween old commands new → KeepsLaws old new
laws_after old new commands reached between = laws_kept old new reached (commands_reach old new between.taken between.replies reached between.takes)
