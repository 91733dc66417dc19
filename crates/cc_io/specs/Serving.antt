-- The bytes that a sink took from a call that replies to the entries of an input, by its result. A
-- crate says by a claim which replies the entries get.
use Rattle.std.specs.Prelude.{◌≡◌, ◌≤◌, ◌<◌, ℕ, Bool, not, ◌||◌, ◌==◌, List, [], ◌++◌, length, take, Option, Result, Ok, Err, ◌⊎◌}
use Rattle.std.specs.Io.KnownBytes.{Appends, Consumes, IsAtEnd}
use Rattle.std.specs.List.{list_any}
use Rattle.cc_io.specs.Text.{rest_text}
use Rattle.cc_io.specs.Devices.{InputState, IsOutcome, OutputState, TakesPrefix}
use Rattle.cc_io.specs.Frames.{Frame}
use Rattle.cc_io.specs.Answers.{Answer, answers_text, LastFits}
use Rattle.cc_io.specs.declared.summary.IoError.{IoError}
use Rattle.cc_io.specs.declared.summary.IoError.TheVariants.{Read, Write}
use Rattle.cc_io.specs.declared.summary.Summary.{Summary}

-- A claim that these are the replies to the entries, one for each.
abbrev pub Claim : Type 1
Claim = (entries : List (List ℕ)) → List Answer → Type 0

-- A claim that the last bytes written after the replies to these entries are those for `rest`, the
-- trailing bytes, of which there may be none.
abbrev pub EndingClaim : Type 1
EndingClaim = (entries : List (List ℕ)) → (rest text : List ℕ) → Type 0

-- `RefusesRest` holds if trailing bytes are refused as unfinished.
abbrev pub RefusesRest : EndingClaim
RefusesRest entries rest text = text ≡ rest_text rest

-- `WritesWhole` holds if the sink took the whole output for `text`: `pending`, the reply to each
-- entry, and that to trailing bytes, if any. `any_error` says whether a reply is an error, or
-- there are trailing bytes.
pub record WritesWhole (Are : Claim) (Ends : EndingClaim) (frame : Frame) (pending text : List ℕ) (taken taken_now : Option (List ℕ)) (any_error : Bool) : Type 0 where
  pub answers : List Answer
  pub are_answers : Are (frame.entries [] text) answers
  pub ending : List ℕ
  pub is_ending : Ends (frame.entries [] text) (frame.left [] text) ending
  pub written : Appends taken taken_now (pending ++ answers_text answers ++ ending)
  pub error_is : any_error ≡ (list_any (λ answer. answer.is_error) answers || not (length (frame.left [] text) == 0))

-- `WritesReplies` holds if the sink took `pending` and the replies to these entries.
pub record WritesReplies (Are : Claim) (pending : List ℕ) (entries : List (List ℕ)) (taken taken_now : Option (List ℕ)) : Type 0 where
  pub answers : List Answer
  pub are_answers : Are entries answers
  pub written : Appends taken taken_now (pending ++ answers_text answers)

-- `StopsAtOnce` holds if the sink failed before any reply. It had taken a prefix of `pending`.
pub record StopsAtOnce (Are : Claim) (pending : List ℕ) (taken taken_now : Option (List ℕ)) : Type 0 where
  pub some : 0 < length pending
  pub are_answers : Are [] []
  pub written : TakesPrefix taken taken_now pending

-- `StopsInPage` holds if the sink failed on a page of replies. The entries `answered` had got
-- replies, and those in `later` none. The sink had taken `pending`, the replies `before` and a prefix
-- of the replies on the page. The page of `room` bytes had space for `most` bytes before the last of
-- these.
pub record StopsInPage (Are : Claim) (room most : ℕ) (pending : List ℕ) (entries : List (List ℕ)) (taken taken_now : Option (List ℕ)) : Type 0 where
  pub answered : List (List ℕ)
  pub later : List (List ℕ)
  pub entries_are : entries ≡ answered ++ later
  pub before : List Answer
  pub page : List Answer
  pub are_answers : Are answered (before ++ page)
  pub fits : LastFits room most page
  pub all_fit : length (answers_text page) ≤ room
  pub count : ℕ
  pub within : count ≤ length (answers_text page)
  pub written : Appends taken taken_now (pending ++ answers_text before ++ take count (answers_text page))

-- `StopsAfter` holds if the sink failed after the replies to all entries. It had taken `pending`, all
-- these replies and a prefix of that to trailing bytes.
pub record StopsAfter (Are : Claim) (Ends : EndingClaim) (frame : Frame) (pending text : List ℕ) (taken taken_now : Option (List ℕ)) : Type 0 where
  pub answers : List Answer
  pub are_answers : Are (frame.entries [] text) answers
  pub ending : List ℕ
  pub is_ending : Ends (frame.entries [] text) (frame.left [] text) ending
  pub count : ℕ
  pub within : count ≤ length ending
  pub written : Appends taken taken_now (pending ++ answers_text answers ++ take count ending)

-- `ServesText` holds if the bytes written are those for `text`, which the source gave. By the result
-- they are its whole output, or the part before the failure of the source or of the sink.
abbrev pub ServesText : (Are : Claim) → (Ends : EndingClaim) → Frame → (room most : ℕ) → (pending text : List ℕ) → (left taken taken_now : Option (List ℕ)) → Result Summary IoError → Type 0
ServesText Are Ends frame room most pending text left taken taken_now (Ok summary) =
    IsAtEnd left × WritesWhole Are Ends frame pending text taken taken_now summary.any_error
ServesText Are Ends frame room most pending text left taken taken_now (Err Read) = WritesReplies Are pending (frame.entries [] text) taken taken_now
ServesText Are Ends frame room most pending text left taken taken_now (Err Write) =
    ((text ≡ []) × StopsAtOnce Are pending taken taken_now)
    ⊎ (StopsInPage Are room most pending (frame.entries [] text) taken taken_now
    ⊎ (IsAtEnd left × StopsAfter Are Ends frame pending text taken taken_now))

-- `Serves` holds if the bytes written are those for some text that the source gave, and the result
-- reports the failures of the source and the sink. If the source says which bytes are unread, this text
-- is a prefix of them.
pub record Serves (Are : Claim) (Ends : EndingClaim) (frame : Frame) (room most : ℕ) (pending : List ℕ) (input input_now : InputState) (output output_now : OutputState) (result : Result Summary IoError) : Type 0 where
  pub text : List ℕ
  pub given : Consumes input.unread input_now.unread text
  pub serves : ServesText Are Ends frame room most pending text input_now.unread output.taken output_now.taken result
  pub outcome : IsOutcome input_now output_now result
