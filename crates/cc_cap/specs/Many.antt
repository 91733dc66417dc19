-- Batch functions on words: each result is at the index of its word.
use Rattle.std.specs.Prelude.{ℕ, Bool, false, ◌≡◌, ◌<◌, ◌↔◌, List, IsTrue}
use Rattle.std.specs.List.{slice_index_or}
use Rattle.cc_word.specs.declared.fields.Fields.{Fields}
use Rattle.cc_word.specs.Word.{word_of}
use Rattle.cc_bounds.specs.declared.span.Span.{Span}
use Rattle.cc_bounds.specs.Decoding.{DecodesTo}
use Rattle.cc_bounds.specs.Encoding.{StoresSpan}
use Rattle.cc_bounds.specs.Window.{Represents}

-- `AnswersEach` holds if each of the first `count` results is the one for its index.
abbrev pub AnswersEach : {A : Type 0} → (IsAnswer : ℕ → A → Type 0) → (answers : List A) → (count : ℕ) → Type 0
AnswersEach {A} IsAnswer answers count = (i : ℕ) (other : A) → i < count → IsAnswer i (slice_index_or answers i other)

-- `IsSpanOf` holds if `span` is the bounds of the word: its fields decode to them.
abbrev pub IsSpanOf : (word : ℕ) (span : Span) → Type 0
IsSpanOf word span = (fields : Fields) → word_of fields ≡ word → DecodesTo fields span

-- `TellsRepresentable` holds if `answer` is whether the word stores a sound span for which the
-- address is representable.
pub record TellsRepresentable (word address : ℕ) (answer : Bool) : Type 0 where
  pub stored : (fields : Fields) → word_of fields ≡ word → (span : Span) → StoresSpan fields span → (IsTrue answer ↔ Represents span address)
  pub none : (fields : Fields) → word_of fields ≡ word → ((span : Span) → ¬ StoresSpan fields span) → answer ≡ false
