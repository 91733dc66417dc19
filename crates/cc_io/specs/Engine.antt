-- The effects of the parts of the engine. The clauses of `make_room` alone cite this file in public.
use Rattle.std.specs.Prelude.{◌≡◌, ℕ, Bool, true, false, List, [], ◌++◌, take, Option, ◌⊎◌}
use Rattle.std.specs.Io.KnownBytes.{Appends}
use Rattle.std.specs.List.{list_any}
use Rattle.cc_io.specs.Frames.{Frame}
use Rattle.cc_io.specs.Answers.{Answer, Relation, AnswersAll, answers_text, EndsWith, seen}

-- `Answers` holds if the entries that end in `text`, the first of which had begun with `begun`, got
-- replies. `start` is the first 129 bytes after the last of them.
pub record Answers {S : Type 0} (Answered : Relation S) (frame : Frame) (old : S) (begun text start : List ℕ) (taken taken_now : Option (List ℕ)) (any_error : Bool) (new : S) : Type 0 where
  pub answers : List Answer
  pub takes : AnswersAll Answered old (seen (frame.entries begun text)) answers new
  pub written : Appends taken taken_now (answers_text answers)
  pub error_is : any_error ≡ list_any (λ answer. answer.is_error) answers
  pub start_is : start ≡ take 129 (frame.left begun text)

-- `AnswersSome` holds if the first entries that end in `text` got replies, and no other.
pub record AnswersSome {S : Type 0} (Answered : Relation S) (frame : Frame) (old : S) (begun text : List ℕ) (taken taken_now : Option (List ℕ)) (any_error : Bool) (new : S) : Type 0 where
  pub answered : List (List ℕ)
  pub later : List (List ℕ)
  pub entries_are : frame.entries begun text ≡ answered ++ later
  pub answers : List Answer
  pub takes : AnswersAll Answered old (seen answered) answers new
  pub written : Appends taken taken_now (answers_text answers)
  pub error_is : any_error ≡ list_any (λ answer. answer.is_error) answers

-- `AnswersPiece` holds if all entries that end in `text` got replies, or the first ones, after which
-- the answerer is done.
abbrev pub AnswersPiece : {S : Type 0} → (done : S → Bool) → Relation S → Frame → (old : S) → (begun text start : List ℕ) → (taken taken_now : Option (List ℕ)) → (any_error : Bool) → (new : S) → Type 0
AnswersPiece {S} done Answered frame old begun text start taken taken_now any_error new =
    ((done new ≡ false) × Answers Answered frame old begun text start taken taken_now any_error new)
    ⊎ ((done new ≡ true) × AnswersSome Answered frame old begun text taken taken_now any_error new)

-- `PassesPage` holds if the page was written and is empty, or nothing was done.
abbrev pub PassesPage : (taken taken_now : Option (List ℕ)) → (waiting waiting_now : List ℕ) → Type 0
PassesPage taken taken_now waiting waiting_now =
    ((taken_now ≡ taken) × (waiting_now ≡ waiting)) ⊎ (Appends taken taken_now waiting × (waiting_now ≡ []))

-- `EndsPage` holds if the page has the reply to the trailing bytes, or is empty and there are none.
pub record EndsPage {S : Type 0} (Ended : Relation S) (old : S) (rest page_now : List ℕ) (is_error : Bool) (new : S) : Type 0 where
  pub ending : Answer
  pub ends : EndsWith Ended old rest ending new
  pub text_is : page_now ≡ ending.text
  pub error_is : is_error ≡ ending.is_error
