-- The output of `round` for a string.
use Rattle.std.specs.Prelude.{◌≡◌, ⊤, ℕ, List, ◌++◌, codes, IsErr, Option, Some, None, Result, Ok, Err}
use Rattle.cc_word.specs.declared.refusal.Refusal.{Refusal}
use Rattle.cc_bounds.specs.declared.span.Span.{Span}
use Rattle.cc_bounds.specs.Granule.{IsGranted}
use Rattle.cc_values.specs.declared.reply.Reply.{Reply}
use Rattle.cc_values.specs.RoundedLength.{RoundsLength}
use Rattle.cc_values.specs.Values.{length_in}
use Rattle.cc_io.specs.Text.{with_line_feed}
use Rattle.cc_syntax.specs.Replies.{bounds_text, reply_text}
use Rattle.cc_io.specs.CommandOutput.{AnswersResult}
use Rattle.cc_syntax.specs.Request.{request_from}

-- IsRoundingOf holds if `answer` is the line of a machine's reply to `round` of a length.
abbrev pub IsRoundingOf : (size : ℕ) → (answer : List ℕ) → Type 0
IsRoundingOf size answer = (reply : Reply) × RoundsLength size reply × (answer ≡ with_line_feed (reply_text reply))

-- IsRoundingAt holds if `answer` is this line with two more numbers: the base and the top that the
-- request is granted.
abbrev pub IsRoundingAt : (size : ℕ) (request : Span) → (answer : List ℕ) → Type 0
IsRoundingAt size request answer =
    (reply : Reply) × RoundsLength size reply
    × (granted : Span) × IsGranted request granted × (answer ≡ with_line_feed (reply_text reply ++ codes " " ++ bounds_text granted))

-- IsRoundingFrom holds if `answer` is the output for a length: its line without a base, and with one
-- the line for the request of this length from the base, or the refusal if the request ends past
-- 2^64.
abbrev pub IsRoundingFrom : (base : Option ℕ) (size : ℕ) → (answer : List ℕ) → Type 0
IsRoundingFrom None size answer = IsRoundingOf size answer
IsRoundingFrom (Some base) size answer = AnswersResult (IsRoundingAt size) (request_from (Ok (base, size))) answer

-- IsRounding holds if `answer` is the output for a string: that for the length that it parses as, at
-- most 2^64, or the line of the refusal.
abbrev pub IsRounding : (base : Option ℕ) (text answer : List ℕ) → Type 0
IsRounding base text answer = AnswersResult (IsRoundingFrom base) (length_in text) answer

-- IsUnroundable holds if the output is a refusal: the string is not a length, or the request of this
-- length from the base ends past 2^64.
abbrev pub IsUnroundable : (base : Option ℕ) → Result ℕ Refusal → Type 0
IsUnroundable base (Err refusal) = ⊤
IsUnroundable None (Ok size) = ⊥
IsUnroundable (Some base) (Ok size) = IsErr (request_from (Ok (base, size)))
