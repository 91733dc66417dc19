-- The output of `show`, `round` and `explain`, the questions for which it is an error, and the hint on a question.
use Rattle.std.specs.Prelude.{ℕ, Bool, false, not, ◌&&◌, ◌||◌, IsErr, List, Option, None, Some, is_some, option_map}
use Rattle.cc_word.specs.WordText.{IsWordText}
use Rattle.cc_values.specs.Values.{length_in}
use Rattle.cc_explain.specs.Explanation.{IsExplanation}
use Rattle.cc_decode.specs.Output.{IsShown}
use Rattle.cc_io.specs.CommandOutput.{IsTypedWord}
use Rattle.cc_explain.specs.Listing.{IsListing}
use Rattle.cc_explain.specs.WindowDrawing.{IsWindowDrawing}
use Rattle.cli.specs.declared.question.Base.{Base}
use Rattle.cli_words.specs.LengthExplanation.{IsLengthExplanation, request_at}
use Rattle.cli_words.specs.Rounding.{IsRounding, IsUnroundable}
use Rattle.cli.specs.declared.question.Question.{Question}
use Rattle.cli.specs.declared.question.Question.TheVariants.{DrawWindow, Explain, ExplainLength, Round, Show}
use Rattle.cli_words.specs.BareDigits.{is_bare}
use Rattle.cli_words.specs.NumberHint.{hint_if, is_bare_base}
use Rattle.cli_words.specs.WordHint.{is_word_hinted, word_hint}

-- The address of a base, if one is given.
abbrev pub address_of : Option Base → Option ℕ
address_of base = option_map (λ given. given.address) base

-- IsAnswerTo holds if the bytes are the output for the question.
abbrev pub IsAnswerTo : Question → (answer : List ℕ) → Type 0
IsAnswerTo (Show word None) answer = IsListing word.now answer
IsAnswerTo (Show word (Some format)) answer = IsShown format word.now answer
IsAnswerTo (Round base size) answer = IsRounding (address_of base) size.now answer
IsAnswerTo (Explain word) answer = IsExplanation word.now answer
IsAnswerTo (DrawWindow word) answer = IsWindowDrawing word.now answer
IsAnswerTo (ExplainLength base size) answer = IsLengthExplanation base.address size.now answer

-- IsUnanswerable holds if the output is an error: the texts are not a word, not a length, or not bounds that can be
-- requested. `show` without `--line` and `--format` accepts no `0x` before a word.
abbrev pub IsUnanswerable : Question → Type 0
IsUnanswerable (Show word None) = ¬ IsWordText word.now
IsUnanswerable (Show word (Some format)) = ¬ IsTypedWord word.now
IsUnanswerable (Round base size) = IsUnroundable (address_of base) (length_in size.now)
IsUnanswerable (Explain word) = ¬ IsTypedWord word.now
IsUnanswerable (DrawWindow word) = ¬ IsTypedWord word.now
IsUnanswerable (ExplainLength base size) = IsErr (request_at base.address size.now)

-- Whether there is a hint on a question: for `show` without `--line` and `--format` on a word after
-- `0x`, and for `round` and `explain --length` on the numbers.
abbrev pub has_hint : (hints : Bool) → Question → Bool
has_hint hints (Show word format) = is_word_hinted (hints && not (is_some format)) word.now
has_hint hints (Round base size) = hints && (is_bare_base base || is_bare size.now)
has_hint hints (ExplainLength base size) = hints && (is_bare base.text.now || is_bare size.now)
has_hint hints _ = false

-- This hint, or nothing if there is none.
abbrev pub question_hint : (hints : Bool) → Question → List ℕ
question_hint hints (Show word format) = word_hint (hints && not (is_some format)) word.now
question_hint hints question = hint_if (has_hint hints question)
