-- The main theorem of the engine: the bytes written, and the state of the answerer.
use Rattle.std.specs.Prelude.{◌≡◌, ◌≤◌, ◌<◌, ℕ, Bool, true, List, [], ◌∷◌, ◌++◌, length, take, Option, Result, Ok, Err, ◌⊎◌}
use Rattle.std.specs.List.{list_any}
use Rattle.std.specs.Io.KnownBytes.{Appends, Consumes, IsAtEnd}
use Rattle.cc_io.specs.Frames.{Frame}
use Rattle.cc_io.specs.Devices.{TakesPrefix}
use Rattle.cc_io.specs.Answers.{Answer, Relation, AnswersAll, answers_text, EndsWith, entries_of, rest_of, LastFits, Output}
use Rattle.cc_io.specs.declared.summary.IoError.{IoError}
use Rattle.cc_io.specs.declared.summary.IoError.TheVariants.{Read, Write}
use Rattle.cc_io.specs.declared.summary.Summary.{Summary}

-- `WritesOutput` holds if `pending` was written, and then the output of `text`.
pub record WritesOutput {S : Type 0} (Answered Ended : Relation S) (frame : Frame) (old : S) (pending text : List ℕ) (taken taken_now : Option (List ℕ)) (any_error : Bool) (new : S) : Type 0 where
  pub output : List ℕ
  pub of_text : Output Answered Ended frame old text output any_error new
  pub written : Appends taken taken_now (pending ++ output)

-- `WritesAnswers` holds if `pending` was written, and then the replies to these entries.
pub record WritesAnswers {S : Type 0} (Answered : Relation S) (old : S) (pending : List ℕ) (entries : List (List ℕ)) (taken taken_now : Option (List ℕ)) (new : S) : Type 0 where
  pub answers : List Answer
  pub takes : AnswersAll Answered old entries answers new
  pub written : Appends taken taken_now (pending ++ answers_text answers)

-- `StopsInPending` holds if a prefix of `pending` was written, and no entry got a reply.
pub record StopsInPending {S : Type 0} (old : S) (pending : List ℕ) (taken taken_now : Option (List ℕ)) (new : S) : Type 0 where
  pub some : 0 < length pending
  pub stays : new ≡ old
  pub written : TakesPrefix taken taken_now pending

-- `StopsOnPage` holds if the sink failed on a page. `pending`, the replies to `earlier` and a
-- prefix of the page were written. The replies to the entries `on_page` were on the page. The
-- answerer has taken `earlier` and `on_page`, and none of `later`. The page of `room` bytes had
-- space for `most` bytes before the last of these replies.
pub record StopsOnPage {S : Type 0} (Answered : Relation S) (room most : ℕ) (old : S) (pending : List ℕ) (entries : List (List ℕ)) (taken taken_now : Option (List ℕ)) (new : S) : Type 0 where
  pub earlier : List (List ℕ)
  pub on_page : List (List ℕ)
  pub later : List (List ℕ)
  pub entries_are : entries ≡ earlier ++ on_page ++ later
  pub before : List Answer
  pub mid : S
  pub first : AnswersAll Answered old earlier before mid
  pub page : List Answer
  pub takes : AnswersAll Answered mid on_page page new
  pub fits : LastFits room most page
  pub all_fit : length (answers_text page) ≤ room
  pub count : ℕ
  pub within : count ≤ length (answers_text page)
  pub written : Appends taken taken_now (pending ++ answers_text before ++ take count (answers_text page))

-- `StopsInAnswer` holds if the sink failed in one reply. All before the reply was written, and a
-- prefix of the reply. The answerer has taken its entry, and none after it.
pub record StopsInAnswer {S : Type 0} (Answered : Relation S) (old : S) (pending : List ℕ) (entries : List (List ℕ)) (taken taken_now : Option (List ℕ)) (new : S) : Type 0 where
  pub earlier : List (List ℕ)
  pub entry : List ℕ
  pub later : List (List ℕ)
  pub entries_are : entries ≡ earlier ++ entry ∷ later
  pub answers : List Answer
  pub mid : S
  pub first : AnswersAll Answered old earlier answers mid
  pub answer : Answer
  pub last : Answered mid entry answer.text answer.is_error new
  pub count : ℕ
  pub within : count ≤ length answer.text
  pub written : Appends taken taken_now (pending ++ answers_text answers ++ take count answer.text)

-- `StopsAfterAnswers` holds if the sink failed after the replies to all entries: in the reply to
-- the trailing bytes, or in the flush.
pub record StopsAfterAnswers {S : Type 0} (Answered Ended : Relation S) (frame : Frame) (old : S) (pending text : List ℕ) (taken taken_now : Option (List ℕ)) (new : S) : Type 0 where
  pub answers : List Answer
  pub mid : S
  pub takes : AnswersAll Answered old (entries_of frame text) answers mid
  pub ending : Answer
  pub ends : EndsWith Ended mid (rest_of frame text) ending new
  pub count : ℕ
  pub within : count ≤ length ending.text
  pub written : Appends taken taken_now (pending ++ answers_text answers ++ take count ending.text)

-- `StopsEarly` holds if the answerer took the first of the entries, and none after them. `pending` and
-- the replies to these were written. `any_error` says whether one of them is an error.
pub record StopsEarly {S : Type 0} (Answered : Relation S) (old : S) (pending : List ℕ) (entries : List (List ℕ)) (taken taken_now : Option (List ℕ)) (any_error : Bool) (new : S) : Type 0 where
  pub answered : List (List ℕ)
  pub later : List (List ℕ)
  pub entries_are : entries ≡ answered ++ later
  pub answers : List Answer
  pub takes : AnswersAll Answered old answered answers new
  pub written : Appends taken taken_now (pending ++ answers_text answers)
  pub error_is : any_error ≡ list_any (λ answer. answer.is_error) answers

-- `PumpsText` holds if the bytes written for `text`, which the source gave, and the state of the
-- answerer are those for the result.
abbrev pub PumpsText : {S : Type 0} → (Answered Ended : Relation S) → Frame → (room most : ℕ) → (old : S) → (pending text : List ℕ) → (left taken taken_now : Option (List ℕ)) → Result Summary IoError → (new : S) → Type 0
PumpsText {S} Answered Ended frame room most old pending text left taken taken_now (Ok summary) new =
    IsAtEnd left × WritesOutput Answered Ended frame old pending text taken taken_now summary.any_error new
PumpsText {S} Answered Ended frame room most old pending text left taken taken_now (Err Read) new =
    WritesAnswers Answered old pending (entries_of frame text) taken taken_now new
PumpsText {S} Answered Ended frame room most old pending text left taken taken_now (Err Write) new =
    ((text ≡ []) × StopsInPending old pending taken taken_now new)
    ⊎ (StopsOnPage Answered room most old pending (entries_of frame text) taken taken_now new
    ⊎ (IsAtEnd left × StopsAfterAnswers Answered Ended frame old pending text taken taken_now new))

-- `StopsText` holds if the answerer took no more than the first of the entries of `text`, and the
-- replies to these were written. With the result `Write`, the flush after them failed.
abbrev pub StopsText : {S : Type 0} → (Answered : Relation S) → Frame → (old : S) → (pending text : List ℕ) → (taken taken_now : Option (List ℕ)) → Result Summary IoError → (new : S) → Type 0
StopsText {S} Answered frame old pending text taken taken_now (Ok summary) new =
    StopsEarly Answered old pending (entries_of frame text) taken taken_now summary.any_error new
StopsText {S} Answered frame old pending text taken taken_now (Err Read) new = ⊥
StopsText {S} Answered frame old pending text taken taken_now (Err Write) new =
    (any_error : Bool) × StopsEarly Answered old pending (entries_of frame text) taken taken_now any_error new

-- `Pumps` holds if the bytes written are those for some text that the source gave, or for its first
-- entries, after which the answerer is done. If the source says which bytes are unread, this text is a
-- prefix of them.
pub record Pumps {S : Type 0} (done : S → Bool) (Answered Ended : Relation S) (frame : Frame) (room most : ℕ) (old : S) (pending : List ℕ) (unread left taken taken_now : Option (List ℕ)) (result : Result Summary IoError) (new : S) : Type 0 where
  pub text : List ℕ
  pub given : Consumes unread left text
  pub pumps :
      PumpsText Answered Ended frame room most old pending text left taken taken_now result new
      ⊎ ((done new ≡ true) × StopsText Answered frame old pending text taken taken_now result new)
