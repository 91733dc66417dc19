-- The result of an operation before it is added to the slots. No public clause cites this file.
use Rattle.std.specs.Prelude.{ℕ, ⊤, Result}
use Rattle.cc_word.specs.declared.refusal.Refusal.{Refusal}
use Rattle.cc_cap.specs.Capability.{Capability}
use Rattle.cc_values.specs.declared.op.Op.{Op}
use Rattle.cc_values.specs.declared.reply.Reply.{Reply}
use Rattle.cc_machine.specs.State.{State}
use Rattle.cc_machine.specs.Step.{OnSlot, Adds, Step}

-- Makes holds if the operation derives the result from slot `parent`. The slot can be used, or the
-- result says why not, and adding the result as its child is the operation's step.
pub record Makes (old : State) (op : Op) (parent : ℕ) (result : Result Capability Refusal) : Type 0 where
  pub used : OnSlot old.slots parent result (λ cap. ⊤)
  pub step : (reply : Reply) (new : State) → Adds old parent result reply new → Step old op reply new

-- IsMade holds if some operation derives the result from slot `parent`.
pub record IsMade (old : State) (parent : ℕ) (result : Result Capability Refusal) : Type 0 where
  pub op : Op
  pub makes : Makes old op parent result
