-- Laws of outputs, for any answerer.
use Rattle.std.specs.Prelude.{◌≡◌, ◌<◌, ℕ, Bool, ◌||◌, List, ◌++◌, length, take, Option}
use Rattle.std.specs.Io.KnownBytes.{Appends}
use Rattle.cc_io.specs.Frames.{Frame}
use Rattle.cc_io.specs.Answers.{Relation, Output}

-- `InParts` holds if the output is the first part's, followed by the second part's from the state
-- reached.
pub record InParts {S : Type 0} (Answered Ended : Relation S) (frame : Frame) (old : S) (first second output : List ℕ) (any_error : Bool) (new : S) : Type 0 where
  pub mid : S
  pub output_1 : List ℕ
  pub error_1 : Bool
  pub of_first : Output Answered Ended frame old first output_1 error_1 mid
  pub output_2 : List ℕ
  pub error_2 : Bool
  pub of_second : Output Answered Ended frame mid second output_2 error_2 new
  pub output_is : output ≡ output_1 ++ output_2
  pub error_is : any_error ≡ (error_1 || error_2)

-- `IsOne` holds if no entry may get two replies in one state.
pub record IsOne {S : Type 0} (Answered : Relation S) : Type 0 where
  pub text : (old : S) (entry text text_2 : List ℕ) (error error_2 : Bool) (new new_2 : S)
      → Answered old entry text error new → Answered old entry text_2 error_2 new_2 → text ≡ text_2
  pub error : (old : S) (entry text text_2 : List ℕ) (error error_2 : Bool) (new new_2 : S)
      → Answered old entry text error new → Answered old entry text_2 error_2 new_2 → error ≡ error_2
  pub new : (old : S) (entry text text_2 : List ℕ) (error error_2 : Bool) (new new_2 : S)
      → Answered old entry text error new → Answered old entry text_2 error_2 new_2 → new ≡ new_2

-- `IsSome` holds if no reply is empty.
abbrev pub IsSome : {S : Type 0} → Relation S → Type 0
IsSome {S} Answered = (old : S) (entry text : List ℕ) (error : Bool) (new : S) → Answered old entry text error new → 0 < length text

-- `BeginsOutput` holds if the bytes written are a prefix of `pending` and any output of `text`.
abbrev pub BeginsOutput : {S : Type 0} → (Answered Ended : Relation S) → Frame → (old : S) → (pending text : List ℕ) → (taken taken_now : Option (List ℕ)) → Type 0
BeginsOutput {S} Answered Ended frame old pending text taken taken_now =
    (output : List ℕ) (any_error : Bool) (end : S) → Output Answered Ended frame old text output any_error end
    → (count : ℕ) × Appends taken taken_now (take count (pending ++ output))
