-- The output of `round` for a list of lengths: a line for each line of the list. `base` is the base
-- of each request whose line has none, if there is one.
use Rattle.std.specs.Prelude.{◌≡◌, ◌≤◌, ◌<◌, ◌⊎◌, ◌↔◌, ℕ, Bool, IsTrue, List, [], ◌∷◌, length, ⊤, MatchResult, Option, None, Some, Ok, Result}
use Rattle.std.specs.List.{list_any}
use Rattle.cc_word.specs.declared.refusal.Refusal.{Refusal}
use Rattle.cc_word.specs.declared.refusal.Refusal.TheVariants.{TooLong}
use Rattle.cc_values.specs.Values.{address_in, both, length_in}
use Rattle.cc_io.specs.CommandOutput.{AnswersResult, IsRefusalLine, changed}
use Rattle.cc_io.specs.Answers.{Answer}
use Rattle.cc_io.specs.Devices.{InputState, OutputState}
use Rattle.cc_io.specs.Frames.{lines}
use Rattle.cc_io.specs.Serving.{RefusesRest, Serves}
use Rattle.cc_io.specs.declared.summary.IoError.{IoError}
use Rattle.cc_io.specs.declared.summary.Summary.{Summary}
use Rattle.cli_words.specs.BareDigits.{is_bare_line}
use Rattle.cli_words.specs.ListLine.{line_parts}
use Rattle.cli_words.specs.Rounding.{IsRoundingFrom, IsUnroundable}

-- The length and the base of the parts of a line, or the first error: a base of the line takes the place of the given one.
abbrev pub line_request : (base : Option ℕ) (parts : List ℕ × Option (List ℕ)) → Result (ℕ × Option ℕ) Refusal
line_request base (size, None) = changed (λ number. (number, base)) (length_in size)
line_request base (size, Some own) = changed (λ numbers. (numbers.0, Some numbers.1)) (both (length_in size) (address_in own))

-- The length and the base of a line.
abbrev pub listed_in : (base : Option ℕ) (line : List ℕ) → Result (ℕ × Option ℕ) Refusal
listed_in base line = line_request base (line_parts line)

-- IsListedLine holds if `answer` is the output for a line: that for its length from its base, or the line of the refusal.
abbrev pub IsListedLine : (base : Option ℕ) (line answer : List ℕ) → Type 0
IsListedLine base line answer = AnswersResult (λ found. IsRoundingFrom found.1 found.0) (listed_in base line) answer

-- IsUnlisted holds if this output is a refusal.
abbrev pub IsUnlisted : (base : Option ℕ) (line : List ℕ) → Type 0
IsUnlisted base line = MatchResult (listed_in base line) (λ found. IsUnroundable found.1 (Ok found.0)) (λ refusal. ⊤)

-- IsLengthAnswer holds if the reply is the output for a line of a list: that for its length and base for a
-- line of at most 128 bytes, and `error 3 long` for a longer one. It is an error for a line that is
-- longer, is not a length or a length and a base, or has no rounding at the base.
pub record IsLengthAnswer (base : Option ℕ) (line : List ℕ) (answer : Answer) : Type 0 where
  pub short : length line ≤ 128 → IsListedLine base line answer.text
  pub long : 128 < length line → IsRefusalLine TooLong answer.text
  pub error_is : IsTrue answer.is_error ↔ (IsUnlisted base line ⊎ (128 < length line))

-- AreLengthAnswers holds if the replies are those to the lines, one for each.
abbrev pub AreLengthAnswers : (base : Option ℕ) (entries : List (List ℕ)) → List Answer → Type 0
AreLengthAnswers base [] [] = ⊤
AreLengthAnswers base (line ∷ entries) (answer ∷ answers) = IsLengthAnswer base line answer × AreLengthAnswers base entries answers
AreLengthAnswers base [] (answer ∷ answers) = ⊥
AreLengthAnswers base (line ∷ entries) [] = ⊥

-- AreRoundings holds if the replies are those to the lines, and `bare` is whether a line is digits
-- that may be meant as hexadecimal ones.
abbrev pub AreRoundings : (base : Option ℕ) (bare : Bool) (entries : List (List ℕ)) → List Answer → Type 0
AreRoundings base bare entries answers = AreLengthAnswers base entries answers × (bare ≡ list_any is_bare_line entries)

-- RoundsList holds if the bytes written are the replies to the lines of some text that the source
-- gave, up to a failure. At a failure of the sink, these are on a page of 32,768 bytes, of which at
-- least 264 were free before the last.
abbrev pub RoundsList : (base : Option ℕ) (bare : Bool) (input input_now : InputState) (output output_now : OutputState) → Result Summary IoError → Type 0
RoundsList base bare input input_now output output_now result =
    Serves (AreRoundings base bare) RefusesRest lines 32768 264 [] input input_now output output_now result
