-- The output of a command, which it writes to a sink.
use Rattle.std.specs.Prelude.{◌≡◌, ◌⊎◌, ◌↔◌, ℕ, true, List, Result, Ok, Err, IfOk, IsErr, OnOk, OnErr}
use Rattle.std.specs.Result.{result_map_both}
use Rattle.std.specs.Io.KnownBytes.{Appends}
use Rattle.std.specs.Str.Parse.{digits_value}
use Rattle.cc_word.specs.WordText.{IsWordText}
use Rattle.cc_word.specs.declared.refusal.Refusal.{Refusal}
use Rattle.cc_word.specs.declared.refusal.Refusal.TheVariants.{Syntax}
use Rattle.cc_io.specs.Devices.{OutputState, TakesPrefix}
use Rattle.cc_io.specs.Lines.{digits_in}
use Rattle.cc_io.specs.Text.{refusal_text, with_line_feed}
use Rattle.cc_io.specs.declared.summary.IoError.{IoError}
use Rattle.cc_io.specs.declared.summary.IoError.TheVariants.{Write}
use Rattle.cc_io.specs.declared.summary.Summary.{Summary}

-- IsRefusalLine holds if `answer` is the line of the refusal.
abbrev pub IsRefusalLine : Refusal → (answer : List ℕ) → Type 0
IsRefusalLine refusal answer = answer ≡ with_line_feed (refusal_text refusal)

-- AnswersText holds if `answer` is the output for a string. For a word it satisfies `IsAnswer`, and
-- for any other string it is the refusal `error 1 syntax`.
abbrev pub AnswersText : (IsAnswer : (word : ℕ) → (answer : List ℕ) → Type 0) → (text answer : List ℕ) → Type 0
AnswersText IsAnswer text answer =
    (IsWordText text × IsAnswer (digits_value 16 text) answer) ⊎ ((¬ IsWordText text) × IsRefusalLine Syntax answer)

-- IsTypedWord holds if the string is a word as it is typed: 32 hexadecimal digits of either case,
-- with or without `0x` in front of them.
abbrev pub IsTypedWord : (text : List ℕ) → Type 0
IsTypedWord text = IsWordText (digits_in text)

-- AnswersTyped holds if `answer` is the output for a string as it is typed. For a word, with or
-- without `0x`, it satisfies `IsAnswer`, and for any other string it is the refusal `error 1 syntax`.
abbrev pub AnswersTyped : (IsAnswer : (word : ℕ) → (answer : List ℕ) → Type 0) → (text answer : List ℕ) → Type 0
AnswersTyped IsAnswer text answer = AnswersText IsAnswer (digits_in text) answer

-- AnswersResult holds if `answer` is the output for a result. For a value it satisfies `IsAnswer`,
-- and otherwise it is the line of the refusal.
abbrev pub AnswersResult : {A : Type 0} → (IsAnswer : A → (answer : List ℕ) → Type 0) → Result A Refusal → (answer : List ℕ) → Type 0
AnswersResult IsAnswer (Ok value) answer = IsAnswer value answer
AnswersResult IsAnswer (Err refusal) answer = IsRefusalLine refusal answer

-- WritesAnswer holds if output that satisfies `IsAnswer` was written and flushed: all of it if the call
-- succeeds, and otherwise a prefix of it. The call fails if and only if the sink does.
pub record WritesAnswer (IsAnswer : List ℕ → Type 0) (old new : OutputState) (result : Result Summary IoError) : Type 0 where
  pub answer : List ℕ
  pub is_answer : IsAnswer answer
  pub whole : OnOk result (Appends old.taken new.taken answer)
  pub beginning : OnErr result (TakesPrefix old.taken new.taken answer)
  pub flushed : OnOk result (new.is_flushed ≡ true)
  pub fails : IsErr result ↔ (new.has_failed ≡ true)
  pub write : OnErr result (result ≡ Err Write)

-- The value with a change, or the error.
abbrev pub changed : {A B : Type 0} → (A → B) → Result A Refusal → Result B Refusal
changed change result = result_map_both change (λ refusal. refusal) result

-- WritesRefusal holds if the line of the refusal was written, or a prefix of it if a write failed. The summary says that it is an
-- error.
pub record WritesRefusal (output output_now : OutputState) (refusal : Refusal) (result : Result Summary IoError) : Type 0 where
  pub written : WritesAnswer (IsRefusalLine refusal) output output_now result
  pub error_is : IfOk result (λ summary. summary.any_error ≡ true)
