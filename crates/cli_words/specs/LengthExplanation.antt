-- The output of `explain --length` for a base and a length.
use Rattle.std.specs.Prelude.{ℕ, List, Result}
use Rattle.cc_bounds.specs.declared.span.Span.{Span}
use Rattle.cc_word.specs.declared.refusal.Refusal.{Refusal}
use Rattle.cc_io.specs.CommandOutput.{AnswersResult, changed}
use Rattle.cc_explain.specs.Request.{IsRequestExplanation}
use Rattle.cc_syntax.specs.Request.{request_from}
use Rattle.cc_values.specs.Values.{length_in}

-- The request of a base for the length that a string parses as, or the first of these errors: it is not a number, it is above 2^64, the
-- request ends past 2^64.
abbrev pub request_at : (base : ℕ) (size : List ℕ) → Result Span Refusal
request_at base size = request_from (changed (λ number. (base, number)) (length_in size))

-- `IsLengthExplanation` holds if `answer` is the output for a base and the string of a length: the
-- explanation of their request, or the line of the refusal.
abbrev pub IsLengthExplanation : (base : ℕ) (size answer : List ℕ) → Type 0
IsLengthExplanation base size answer = AnswersResult IsRequestExplanation (request_at base size) answer
