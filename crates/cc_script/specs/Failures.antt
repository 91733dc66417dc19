-- The bytes that a run wrote if the source or the sink failed.
use Rattle.std.specs.Prelude.{◌≡◌, ℕ, ◌+◌, ◌≤◌, Bool, List, [], ◌∷◌, ◌++◌, length, take, IfErr, IfSome, Result, ◌⊎◌}
use Rattle.std.specs.Io.KnownBytes.{Appends}
use Rattle.cc_word.specs.declared.refusal.Refusal.{Refusal}
use Rattle.cc_io.specs.Lines.{rest_of}
use Rattle.cc_io.specs.declared.summary.IoError.{IoError}
use Rattle.cc_io.specs.declared.summary.IoError.TheVariants.{Read, Write}
use Rattle.cc_io.specs.declared.summary.Summary.{Summary}
use Rattle.cc_values.specs.declared.op.Op.{Op}
use Rattle.cc_values.specs.declared.reply.Reply.{Reply}
use Rattle.cc_machine.specs.State.{State}
use Rattle.cc_syntax.specs.Replies.{reply_text}
use Rattle.cc_script.specs.Output.{commands_of, Takes, TakesAll, with_line_feed, replies_text, rest_text, ScriptOutput}
use Rattle.cc_script.specs.Main.{IoState, Main}

-- ---- The bytes written for a script. `Wrote bytes` says that the sink took these bytes.

-- WritesAllReplies holds if the replies to the setup operations and to the lines of the text were
-- written, and nothing for trailing bytes.
pub record WritesAllReplies (old : State) (opening : List Op) (text : List ℕ) (Wrote : List ℕ → Type 0) (new : State) : Type 0 where
  pub replies : List Reply
  pub takes : TakesAll old (commands_of opening text) replies new
  pub written : Wrote (replies_text replies)

-- StopsInReply holds if the replies to the commands before one of them were written, and a prefix
-- of the reply to that one. The machine has taken that command, and none after it.
pub record StopsInReply (old : State) (commands : List (Result Op Refusal)) (Wrote : List ℕ → Type 0) (new : State) : Type 0 where
  pub earlier : List (Result Op Refusal)
  pub command : Result Op Refusal
  pub later : List (Result Op Refusal)
  pub commands_are : commands ≡ earlier ++ command ∷ later
  pub replies : List Reply
  pub mid : State
  pub before : TakesAll old earlier replies mid
  pub reply : Reply
  pub last : Takes mid command reply new
  pub count : ℕ
  pub within : count ≤ length (with_line_feed (reply_text reply))
  pub written : Wrote (replies_text replies ++ take count (with_line_feed (reply_text reply)))

-- LastReplyFits holds if a reply of 193 bytes fits in `room` bytes after all the replies except the
-- last.
pub record LastReplyFits (room : ℕ) (replies : List Reply) : Type 0 where
  pub first : List Reply
  pub last : Reply
  pub replies_are : replies ≡ first ++ last ∷ []
  pub fits : length (replies_text first) + 193 ≤ room

-- StopsInReplies holds if the replies to the commands before some of them were written, and a
-- prefix of the replies to these. These replies are on a page of `room` bytes together, which had
-- space for any reply before the last of them. The machine has taken all the commands on the page,
-- and none after them.
pub record StopsInReplies (room : ℕ) (old : State) (commands : List (Result Op Refusal)) (Wrote : List ℕ → Type 0) (new : State) : Type 0 where
  pub earlier : List (Result Op Refusal)
  pub on_page : List (Result Op Refusal)
  pub later : List (Result Op Refusal)
  pub commands_are : commands ≡ earlier ++ (on_page ++ later)
  pub replies : List Reply
  pub mid : State
  pub before : TakesAll old earlier replies mid
  pub page : List Reply
  pub takes : TakesAll mid on_page page new
  pub last : LastReplyFits room page
  pub fits : length (replies_text page) ≤ room
  pub count : ℕ
  pub within : count ≤ length (replies_text page)
  pub written : Wrote (replies_text replies ++ take count (replies_text page))

-- StopsAfterLines holds if the replies to all commands were written, and a prefix of the refusal of
-- trailing bytes.
pub record StopsAfterLines (old : State) (opening : List Op) (text : List ℕ) (Wrote : List ℕ → Type 0) (new : State) : Type 0 where
  pub replies : List Reply
  pub takes : TakesAll old (commands_of opening text) replies new
  pub count : ℕ
  pub within : count ≤ length (rest_text (rest_of text))
  pub written : Wrote (replies_text replies ++ take count (rest_text (rest_of text)))

-- BeginsScriptOutput holds if the bytes written are a prefix of each output of the script.
abbrev pub BeginsScriptOutput : (old : State) (opening : List Op) (text : List ℕ) (Wrote : List ℕ → Type 0) → Type 0
BeginsScriptOutput old opening text Wrote =
    (output : List ℕ) (any_error : Bool) (end : State) → ScriptOutput old opening text output any_error end
    → (count : ℕ) × Wrote (take count output)

-- The type of the claims that say in which replies to commands the sink can fail. It is
-- `StopsInReply` if each reply is written before the next line is taken, and `StopsInReplies room`
-- if replies are collected on a page.
abbrev pub StopsAt : Type 1
StopsAt = (old : State) → (commands : List (Result Op Refusal)) → (Wrote : List ℕ → Type 0) → (new : State) → Type 0

-- WritesPart holds if a part of the output was written. If the source failed, it is the replies to
-- all commands. If the sink failed, it ends in replies to commands or, at the end of the source, in
-- the refusal of trailing bytes, and is a prefix of the output for the bytes given and `rest`.
abbrev pub WritesPart : (Stops : StopsAt) → (old : State) (opening : List Op) (text rest : List ℕ) (Wrote : List ℕ → Type 0) → IoError → (new : State) → Type 0
WritesPart Stops old opening text rest Wrote Read new = WritesAllReplies old opening text Wrote new
WritesPart Stops old opening text rest Wrote Write new =
    (Stops old (commands_of opening text) Wrote new ⊎ ((rest ≡ []) × StopsAfterLines old opening text Wrote new))
    × BeginsScriptOutput old opening (text ++ rest) Wrote

-- Fails holds if a run that failed wrote a part of the output for the bytes `text`, which the source
-- gave, and `rest`. These are the bytes that it has left, if it says which they are.
pub record Fails (Stops : StopsAt) (opening : List Op) (text : List ℕ) (before : IoState) (result : Result Summary IoError) (after : IoState) : Type 0 where
  pub rest : List ℕ
  pub stays : IfSome after.unread (λ bytes. bytes ≡ rest)
  pub part : IfErr result (λ error. WritesPart Stops before.machine opening text rest (Appends before.taken after.taken) error after.machine)

-- RunsScript holds if the main theorem does, and a run that failed wrote a part of the output.
pub record RunsScript (Stops : StopsAt) (opening : List Op) (before : IoState) (result : Result Summary IoError) (after : IoState) : Type 0 where
  pub main : Main opening before result after
  pub fails : Fails Stops opening main.text before result after
