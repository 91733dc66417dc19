-- The main theorem of a run: its output if no device fails, and the safety of each of its states.
use Rattle.std.specs.Prelude.{◌≡◌, ℕ, Bool, List, ◌++◌, Option, IfOk, Result}
use Rattle.std.specs.Io.KnownBytes.{Appends, Consumes, IsAtEnd}
use Rattle.cc_word.specs.declared.refusal.Refusal.{Refusal}
use Rattle.cc_io.specs.Devices.{InputState, OutputState}
use Rattle.cc_io.specs.declared.summary.IoError.{IoError}
use Rattle.cc_io.specs.declared.summary.Summary.{Summary}
use Rattle.cc_values.specs.declared.op.Op.{Op}
use Rattle.cc_values.specs.declared.reply.Reply.{Reply}
use Rattle.cc_machine.specs.State.{State}
use Rattle.cc_machine.specs.Safety.{IsSafe}
use Rattle.cc_script.specs.Output.{commands_of, TakesAll, ScriptOutput}

-- IsBetween holds if the first of the commands lead from the old state to the state.
pub record IsBetween (old : State) (commands : List (Result Op Refusal)) (state : State) : Type 0 where
  pub taken : List (Result Op Refusal)
  pub left : List (Result Op Refusal)
  pub commands_are : commands ≡ taken ++ left
  pub replies : List Reply
  pub takes : TakesAll old taken replies state

-- The state of the machine, of the source and of the sink in a run. `unread` has the bytes that the
-- source has left, and `taken` those that the sink has taken, if source and sink say which they
-- are.
pub record IoState : Type 0 where
  pub machine : State
  pub unread : Option (List ℕ)
  pub taken : Option (List ℕ)

-- The state of this machine and of these devices.
abbrev pub io_of : State → InputState → OutputState → IoState
io_of machine input output = record { machine = machine; unread = input.unread; taken = output.taken }

-- WritesScriptOutput holds if the sink took the output of the script, and the source has no byte left.
pub record WritesScriptOutput (opening : List Op) (text : List ℕ) (before : IoState) (any_error : Bool) (after : IoState) : Type 0 where
  pub output : List ℕ
  pub output_is : ScriptOutput before.machine opening text output any_error after.machine
  pub written : Appends before.taken after.taken output
  pub at_end : IsAtEnd after.unread

-- Main holds if a run took the setup operations and then the lines of the bytes that the source
-- gave, and wrote the whole output unless it failed. In any case it ends in a state between two
-- commands, and every such state is safe. If the source or the sink does not say its bytes, as a
-- file, a pipe and a terminal do not, nothing ties the text or the output to these bytes.
pub record Main (opening : List Op) (before : IoState) (result : Result Summary IoError) (after : IoState) : Type 0 where
  pub text : List ℕ
  pub given : Consumes before.unread after.unread text
  pub writes : IfOk result (λ summary. WritesScriptOutput opening text before summary.any_error after)
  pub ends : IsBetween before.machine (commands_of opening text) after.machine
  pub safe : (state : State) → IsBetween before.machine (commands_of opening text) state → IsSafe state
