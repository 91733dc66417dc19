-- A machine that replies to the lines of a script, and the counts of its replies.
use Rattle.std.specs.Prelude.{◌≡◌, ◌≤◌, ◌<◌, ℕ, Bool, List, [], ◌∷◌, ◌++◌, length, map, Option, Result, Ok, OnOk}
use Rattle.std.specs.Io.KnownBytes.{Appends}
use Rattle.std.specs.List.{list_any}
use Rattle.cc_word.specs.declared.refusal.Refusal.TheVariants.{Unfinished}
use Rattle.cc_io.specs.Lines.{lines_of, rest_of}
use Rattle.cc_io.specs.declared.summary.IoError.{IoError}
use Rattle.cc_io.specs.declared.summary.Summary.{Summary}
use Rattle.cc_values.specs.declared.op.Op.{Op}
use Rattle.cc_values.specs.declared.reply.Reply.{Reply}
use Rattle.cc_values.specs.declared.reply.Reply.TheVariants.{Refused}
use Rattle.cc_machine.specs.State.{State}
use Rattle.cc_syntax.specs.Commands.{operation_of}
use Rattle.cc_script.specs.Main.{IoState, Main}
use Rattle.cc_script.specs.Failures.{Fails, LastReplyFits, StopsInReplies}
use Rattle.cc_script.specs.Output.{TakesAll, replies_text}
use Rattle.cc_syntax.specs.Replies.{is_error}
use Rattle.cc_syntax.specs.Tally.{Exchange, IsTally}
use Rattle.cc_syntax.specs.declared.tally.Tally.{Tally}

-- Opens holds if the machine took the setup operations, the replies to the first of them were
-- written, the page has the others, and the tally counts all.
pub record Opens (room : ℕ) (old : State) (tally : Tally) (ops : List Op) (page : List ℕ) (taken taken_now : Option (List ℕ)) (any_error : Bool) (new : State) (tally_now : Tally) : Type 0 where
  pub earlier : List Op
  pub on_page : List Op
  pub ops_are : ops ≡ earlier ++ on_page
  pub replies : List Reply
  pub mid : State
  pub before : TakesAll old (map Ok earlier) replies mid
  pub written : Appends taken taken_now (replies_text replies)
  pub waiting : List Reply
  pub takes : TakesAll mid (map Ok on_page) waiting new
  pub page_is : page ≡ replies_text waiting
  pub fits : length page ≤ room
  pub last : 0 < length page → LastReplyFits room waiting
  pub error_is : any_error ≡ list_any is_error (replies ++ waiting)
  pub counted : IsTally [] [] tally → IsTally (replies ++ waiting) [] tally_now

-- The lines of a script, each with its reply.
abbrev pub exchanges_of : (lines : List (List ℕ)) → (replies : List Reply) → List Exchange
exchanges_of [] replies = []
exchanges_of (line ∷ lines) [] = []
exchanges_of (line ∷ lines) (reply ∷ replies) = record { line = line; reply = reply } ∷ exchanges_of lines replies

-- The reply to trailing bytes, unless there are none.
abbrev pub rest_exchange : (rest : List ℕ) → List Exchange
rest_exchange [] = []
rest_exchange (byte ∷ rest) = record { line = []; reply = Refused Unfinished } ∷ []

-- CountsRun holds if the tally has counted the replies to the setup operations, to the lines of the
-- text, and to its trailing bytes.
pub record CountsRun (old : State) (opening : List Op) (text : List ℕ) (tally : Tally) (new : State) : Type 0 where
  pub first : List Reply
  pub mid : State
  pub opens : TakesAll old (map Ok opening) first mid
  pub replies : List Reply
  pub takes : TakesAll mid (map operation_of (lines_of text)) replies new
  pub exchanges : List Exchange
  pub exchanges_are : exchanges ≡ exchanges_of (lines_of text) replies ++ rest_exchange (rest_of text)
  pub is_tally : IsTally first exchanges tally

-- RunsSession holds if a run executed the script, on a page of `room` bytes. If the run succeeds,
-- the tally at the end has counted the replies of this run.
pub record RunsSession (room : ℕ) (opening : List Op) (before : IoState) (result : Result Summary IoError) (tally : Tally) (after : IoState) : Type 0 where
  pub main : Main opening before result after
  pub fails : Fails (StopsInReplies room) opening main.text before result after
  pub counts : OnOk result (CountsRun before.machine opening main.text tally after.machine)
