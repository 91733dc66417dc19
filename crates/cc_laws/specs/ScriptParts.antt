-- The output of a text in two parts.
use Rattle.std.specs.Prelude.{◌≡◌, ℕ, Bool, ◌||◌, List, [], ◌++◌}
use Rattle.cc_values.specs.declared.op.Op.{Op}
use Rattle.cc_machine.specs.State.{State}
use Rattle.cc_io.specs.Lines.{rest_of}
use Rattle.cc_script.specs.Output.{ScriptOutput}

-- EndsLine holds if the text has no trailing bytes: it is empty, or ends in a line feed.
abbrev pub EndsLine : List ℕ → Type 0
EndsLine text = rest_of text ≡ []

-- OutputInParts holds if `output` is the output of the setup operations and the text, followed by
-- the output of `more`, without setup operations, from the state that the first part leads to.
-- `any_error` says whether either part has an error.
pub record OutputInParts (old : State) (opening : List Op) (text more output : List ℕ) (any_error : Bool) (new : State) : Type 0 where
  pub mid : State
  pub first : List ℕ
  pub second : List ℕ
  pub first_error : Bool
  pub second_error : Bool
  pub of_text : ScriptOutput old opening text first first_error mid
  pub of_more : ScriptOutput mid [] more second second_error new
  pub output_is : output ≡ first ++ second
  pub error_is : any_error ≡ (first_error || second_error)
