-- The laws that a script's run keeps, whatever its result.
use Rattle.std.specs.Prelude.{◌≡◌, ℕ, Bool, List, [], ◌∷◌, Result, Ok, Err}
use Rattle.cc_word.specs.declared.refusal.Refusal.{Refusal}
use Rattle.cc_values.specs.declared.op.Op.{Op}
use Rattle.cc_values.specs.declared.reply.Reply.{Reply}
use Rattle.cc_values.specs.declared.reply.Reply.TheVariants.{Refused}
use Rattle.cc_machine.specs.State.{State}
use Rattle.cc_machine.specs.Run.{Run}
use Rattle.cc_machine.specs.Laws.{IsMonotonicTree, HasSealingAuthority}
use Rattle.cc_machine.specs.ObjectLaws.{KeepsObjectLaws}
use Rattle.cc_machine.specs.Confinement.{StepsWithin, IsConfined}
use Rattle.cc_machine.specs.Reach.{ReachesAll}
use Rattle.cc_script.specs.Output.{operations_among}

-- TakesWithin holds if the machine takes the command. If this is an operation that is not refused,
-- it uses only slots that are held: given ones, and ones made since `start`.
abbrev pub TakesWithin : (given : ℕ → Bool) → (start old : State) → (command : Result Op Refusal) → Reply → State → Type 0
TakesWithin given start old (Ok op) reply new = StepsWithin given start old op reply new
TakesWithin given start old (Err refusal) reply new = (reply ≡ Refused refusal) × (new ≡ old)

-- TakesAllWithin holds if `TakesWithin` does for all the commands, one after another.
abbrev pub TakesAllWithin :
    (given : ℕ → Bool) → (start old : State) → (commands : List (Result Op Refusal)) → List Reply → State → Type 0
TakesAllWithin given start old [] [] new = new ≡ old
TakesAllWithin given start old (command ∷ commands) (reply ∷ replies) new =
    (mid : State) × TakesWithin given start old command reply mid
    × TakesAllWithin given start mid commands replies new
TakesAllWithin given start old [] (reply ∷ replies) new = ⊥
TakesAllWithin given start old (command ∷ commands) [] new = ⊥

-- KeepsLaws holds if the laws of every run from the old state to the new one do. The new state
-- keeps the laws of a single state. If commands led to it that used only given slots, and slots
-- made since, it is confined to the given slots. If the operations that led to it are the path to a
-- capability, it has that capability.
pub record KeepsLaws (old new : State) : Type 0 where
  pub tree : IsMonotonicTree new
  pub sealing : HasSealingAuthority new
  pub objects : KeepsObjectLaws new
  pub confined :
      (given : ℕ → Bool) (commands : List (Result Op Refusal)) (replies : List Reply)
      → TakesAllWithin given old old commands replies new → IsConfined given old new
  pub reaches :
      (commands : List (Result Op Refusal)) (replies : List Reply)
      → Run old (operations_among commands) replies new → ReachesAll old (operations_among commands) replies new
