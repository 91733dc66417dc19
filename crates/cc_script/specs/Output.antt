-- The replies of a machine to the commands of a script, and the output for it.
use Rattle.std.specs.Prelude.{◌≡◌, ℕ, Bool, not, ◌||◌, ◌==◌, List, [], ◌∷◌, ◌++◌, length, map, Result, Ok, Err}
use Rattle.std.specs.List.{list_any}
use Rattle.cc_word.specs.declared.refusal.Refusal.{Refusal}
use Rattle.cc_values.specs.declared.op.Op.{Op}
use Rattle.cc_values.specs.declared.reply.Reply.{Reply}
use Rattle.cc_values.specs.declared.reply.Reply.TheVariants.{Refused}
use Rattle.cc_machine.specs.State.{State}
use Rattle.cc_machine.specs.Step.{Step}
pub use Rattle.cc_io.specs.Text.{with_line_feed, rest_text}
use Rattle.cc_io.specs.Lines.{lines_of, rest_of}
use Rattle.cc_syntax.specs.Commands.{operation_of}
use Rattle.cc_syntax.specs.Replies.{reply_text, is_error}

-- The commands for a machine: the setup operations, and then for each line of the text its
-- operation or its error.
abbrev pub commands_of : (opening : List Op) (text : List ℕ) → List (Result Op Refusal)
commands_of opening text = map Ok opening ++ map operation_of (lines_of text)

-- Takes holds if the machine takes the step of an operation, or refuses a line for its error and
-- stays as it was.
abbrev pub Takes : State → (command : Result Op Refusal) → Reply → State → Type 0
Takes old (Ok op) reply new = Step old op reply new
Takes old (Err refusal) reply new = (reply ≡ Refused refusal) × (new ≡ old)

-- TakesAll holds if, from the old state, the commands can get these replies, one for each, and lead
-- to the new state.
abbrev pub TakesAll : State → (commands : List (Result Op Refusal)) → List Reply → State → Type 0
TakesAll old [] [] new = new ≡ old
TakesAll old (command ∷ commands) (reply ∷ replies) new =
    (mid : State) × Takes old command reply mid × TakesAll mid commands replies new
TakesAll old [] (reply ∷ replies) new = ⊥
TakesAll old (command ∷ commands) [] new = ⊥

-- The lines of replies, each with its line feed.
abbrev pub replies_text : List Reply → List ℕ
replies_text [] = []
replies_text (reply ∷ replies) = with_line_feed (reply_text reply) ++ replies_text replies

-- ScriptOutput holds if `output` is the output of a script. It is the reply to each setup operation
-- and to each line of the text, and the refusal of trailing bytes, unless there are none.
-- `any_error` says whether a reply is a refusal, or there are trailing bytes.
pub record ScriptOutput (old : State) (opening : List Op) (text output : List ℕ) (any_error : Bool) (new : State) : Type 0 where
  pub replies : List Reply
  pub takes : TakesAll old (commands_of opening text) replies new
  pub output_is : output ≡ replies_text replies ++ rest_text (rest_of text)
  pub error_is : any_error ≡ (list_any is_error replies || not (length (rest_of text) == 0))

-- The operations, after the command's, if the command is one.
abbrev pub with_operation : (command : Result Op Refusal) → List Op → List Op
with_operation (Ok op) ops = op ∷ ops
with_operation (Err refusal) ops = ops

-- The operations among the commands.
abbrev pub operations_among : (commands : List (Result Op Refusal)) → List Op
operations_among [] = []
operations_among (command ∷ commands) = with_operation command (operations_among commands)

-- The replies, with this one before them if the command is an operation.
abbrev pub with_reply : (command : Result Op Refusal) → Reply → List Reply → List Reply
with_reply (Ok op) reply replies = reply ∷ replies
with_reply (Err refusal) reply replies = replies

-- The replies to the operations among the commands.
abbrev pub operation_replies : (commands : List (Result Op Refusal)) → List Reply → List Reply
operation_replies [] replies = []
operation_replies (command ∷ commands) [] = []
operation_replies (command ∷ commands) (reply ∷ replies) =
    with_reply command reply (operation_replies commands replies)
