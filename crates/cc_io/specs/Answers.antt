-- The replies to a sequence of entries.
use Rattle.std.specs.Prelude.{◌≡◌, ◌≤◌, ◌+◌, ℕ, Bool, false, ◌||◌, List, [], ◌∷◌, ◌++◌, length, map, take}
use Rattle.std.specs.List.{list_any}
use Rattle.cc_io.specs.Frames.{Frame}

-- A reply: its bytes, and whether it is an error.
pub record Answer : Type 0 where
  pub text : List ℕ
  pub is_error : Bool

-- The replies that an answerer may give: the state before, the entry, the bytes of the reply,
-- whether it is an error, and the state after.
abbrev pub Relation : Type 0 → Type 1
Relation S = (old : S) → (entry text : List ℕ) → (is_error : Bool) → (new : S) → Type 0

-- `AnswersAll` holds if the entries may get these replies from the old state, one for each, and
-- lead to the new state.
abbrev pub AnswersAll : {S : Type 0} → Relation S → (old : S) → (entries : List (List ℕ)) → List Answer → (new : S) → Type 0
AnswersAll {S} Answered old [] [] new = new ≡ old
AnswersAll {S} Answered old (entry ∷ entries) (answer ∷ answers) new =
    (mid : S) × Answered old entry answer.text answer.is_error mid × AnswersAll Answered mid entries answers new
AnswersAll {S} Answered old [] (answer ∷ answers) new = ⊥
AnswersAll {S} Answered old (entry ∷ entries) [] new = ⊥

-- The bytes of all replies in order.
abbrev pub answers_text : List Answer → List ℕ
answers_text [] = []
answers_text (answer ∷ answers) = answer.text ++ answers_text answers

-- `EndsWith` holds if the reply is one to the trailing bytes, or is empty and there are none.
abbrev pub EndsWith : {S : Type 0} → Relation S → (old : S) → (rest : List ℕ) → Answer → (new : S) → Type 0
EndsWith {S} Ended old [] answer new = (answer.text ≡ []) × (answer.is_error ≡ false) × (new ≡ old)
EndsWith {S} Ended old (byte ∷ rest) answer new = Ended old (byte ∷ rest) answer.text answer.is_error new

-- The first 129 bytes of each entry, which an answerer sees.
abbrev pub seen : List (List ℕ) → List (List ℕ)
seen entries = map (take 129) entries

-- The entries of `text`, as an answerer sees them.
abbrev pub entries_of : Frame → (text : List ℕ) → List (List ℕ)
entries_of frame text = seen (frame.entries [] text)

-- The bytes of `text` after its last entry, as an answerer sees them.
abbrev pub rest_of : Frame → (text : List ℕ) → List ℕ
rest_of frame text = take 129 (frame.left [] text)

-- `AnswersInto` holds if a reply to the entry was appended to the output.
pub record AnswersInto {S : Type 0} (Answered : Relation S) (old : S) (entry out out_now : List ℕ) (is_error : Bool) (new : S) : Type 0 where
  pub text : List ℕ
  pub out_is : out_now ≡ out ++ text
  pub answered : Answered old entry text is_error new

-- `LastFits` holds if `most` bytes fit in `room` bytes after all replies except the last.
pub record LastFits (room most : ℕ) (answers : List Answer) : Type 0 where
  pub first : List Answer
  pub last : Answer
  pub answers_are : answers ≡ first ++ last ∷ []
  pub fits : length (answers_text first) + most ≤ room

-- `Output` holds if `output` is an output of `text`: the reply to each entry, and the reply to the
-- trailing bytes, unless there are none. `any_error` says whether one of them is an error.
pub record Output {S : Type 0} (Answered Ended : Relation S) (frame : Frame) (old : S) (text output : List ℕ) (any_error : Bool) (new : S) : Type 0 where
  pub answers : List Answer
  pub mid : S
  pub takes : AnswersAll Answered old (entries_of frame text) answers mid
  pub ending : Answer
  pub ends : EndsWith Ended mid (rest_of frame text) ending new
  pub output_is : output ≡ answers_text answers ++ ending.text
  pub error_is : any_error ≡ (list_any (λ answer. answer.is_error) answers || ending.is_error)
