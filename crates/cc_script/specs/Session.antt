-- The replies of a session, and their counts.
use Rattle.std.specs.Prelude.{◌≡◌, ◌+◌, ◌≤◌, ⊤, ℕ, Bool, true, List, [], ◌∷◌, ◌++◌, length, take, Result}
use Rattle.cc_word.specs.declared.refusal.Refusal.{Refusal}
use Rattle.cc_word.specs.declared.refusal.Refusal.TheVariants.{Unfinished}
use Rattle.cc_values.specs.declared.op.Op.{Op}
use Rattle.cc_values.specs.declared.reply.Reply.{Reply}
use Rattle.cc_values.specs.declared.reply.Reply.TheVariants.{Refused}
use Rattle.cc_syntax.specs.Commands.{operation_of}
use Rattle.cc_syntax.specs.Replies.{reply_text, refusal_text, is_error}
use Rattle.cc_syntax.specs.Tally.{Exchange, IsTally}
use Rattle.cc_script.specs.Answering.{IsAnswered}
use Rattle.cc_script.specs.Output.{Takes, with_line_feed}
use Rattle.cc_script.specs.declared.session.Session.{Session}

-- HasSameMachine holds if the same machine is still borrowed.
abbrev pub HasSameMachine : (old new : Session) → Type 0
HasSameMachine old new = new.machine.ghost_name ≡ old.machine.ghost_name

-- TakesScriptLine holds if the machine takes the command of a line, its reply is appended, and the tally is unchanged.
pub record TakesScriptLine (old : Session) (command : Result Op Refusal) (result : Result ⊤ Refusal) (text text_now : List ℕ) (new : Session) : Type 0 where
  pub answered : IsAnswered old.machine.now command result text text_now new.machine.now
  pub fits : length text_now ≤ length text + 193
  pub same : HasSameMachine old new
  pub tally : new.tally ≡ old.tally

-- AnswersLine holds if the machine takes the line, `text` is its reply with a line feed, at most 193
-- bytes, and the tally counts it. `line` is the first 129 bytes of the line.
pub record AnswersLine (old : Session) (line text : List ℕ) (error : Bool) (new : Session) : Type 0 where
  pub reply : Reply
  pub takes : Takes old.machine.now (operation_of line) reply new.machine.now
  pub text_is : text ≡ with_line_feed (reply_text reply)
  pub error_is : error ≡ is_error reply
  pub fits : length text ≤ 193
  pub counted :
      (opening : List Reply) (exchanges : List Exchange) (whole : List ℕ) → line ≡ take 129 whole → IsTally opening exchanges old.tally
      → IsTally opening (exchanges ++ record { line = whole; reply = reply } ∷ []) new.tally
  pub same : HasSameMachine old new

-- RefusesScriptRest holds if `text`, for trailing bytes, is the refusal of an unfinished line with a line
-- feed, the machine is unchanged, and the tally counts the refusal.
pub record RefusesScriptRest (old : Session) (rest text : List ℕ) (error : Bool) (new : Session) : Type 0 where
  pub text_is : text ≡ with_line_feed (refusal_text Unfinished)
  pub error_is : error ≡ true
  pub stays : new.machine.now ≡ old.machine.now
  pub counted :
      (opening : List Reply) (exchanges : List Exchange) → IsTally opening exchanges old.tally
      → IsTally opening (exchanges ++ record { line = []; reply = Refused Unfinished } ∷ []) new.tally
  pub same : HasSameMachine old new
