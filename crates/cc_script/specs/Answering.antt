-- The reply to one command.
use Rattle.std.specs.Prelude.{◌≡◌, ℕ, false, List, ◌++◌, Result, Ok, Err}
use Rattle.cc_word.specs.declared.refusal.Refusal.{Refusal}
use Rattle.cc_values.specs.declared.op.Op.{Op}
use Rattle.cc_values.specs.declared.reply.Reply.{Reply}
use Rattle.cc_values.specs.declared.reply.Reply.TheVariants.{Refused}
use Rattle.cc_machine.specs.State.{State}
use Rattle.cc_syntax.specs.Replies.{reply_text, is_error}
use Rattle.cc_script.specs.Output.{Takes, with_line_feed}

-- Replies holds if the reply to the command is not an error, and was appended to the text with a
-- line feed.
pub record Replies (old : State) (command : Result Op Refusal) (text text_now : List ℕ) (new : State) : Type 0 where
  pub reply : Reply
  pub takes : Takes old command reply new
  pub text_is : text_now ≡ text ++ with_line_feed (reply_text reply)
  pub error_is : is_error reply ≡ false

-- IsAnswered holds, at `Ok`, if `Replies` does, and otherwise if the reply is this refusal and the
-- text is unchanged.
abbrev pub IsAnswered : {Done : Type 0} → State → (command : Result Op Refusal) → Result Done Refusal → (text text_now : List ℕ) → State → Type 0
IsAnswered old command (Ok done) text text_now new = Replies old command text text_now new
IsAnswered old command (Err refusal) text text_now new = Takes old command (Refused refusal) new × (text_now ≡ text)
