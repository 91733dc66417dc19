-- The words in a text, and the text with the line of each word after the word.
use Rattle.std.specs.Prelude.{◌≡◌, ◌≤◌, ◌<◌, ◌+◌, ℕ, Bool, true, false, ⊤, ◌||◌, ◌==◌, ◌⊎◌, List, [], ◌∷◌, ◌++◌, codes, length, take, Option, Result, Ok, Err}
use Rattle.std.specs.Char.{is_ascii_alphanumeric}
use Rattle.std.specs.Io.KnownBytes.{Appends, Consumes, IsAtEnd}
use Rattle.std.specs.List.{AllByRecursion}
use Rattle.std.specs.Str.Parse.{digits_value}
use Rattle.cc_word.specs.WordText.{IsWordText}
use Rattle.cc_cap.specs.LineText.{IsWordLine}
use Rattle.cc_io.specs.Devices.{InputState, IsOutcome, OutputState}
use Rattle.cc_io.specs.declared.summary.IoError.{IoError}
use Rattle.cc_io.specs.declared.summary.IoError.TheVariants.{Read, Write}
use Rattle.cc_io.specs.declared.summary.Summary.{Summary}

-- Whether a byte is a word character: a letter or a digit of ASCII, or an underscore.
abbrev pub is_word_byte : ℕ → Bool
is_word_byte byte = is_ascii_alphanumeric byte || byte == 95

-- IsRun holds if all bytes of `text` are word characters.
abbrev pub IsRun : (text : List ℕ) → Type 0
IsRun text = AllByRecursion (λ byte. is_word_byte byte ≡ true) text

-- OpensAfter holds if a word may begin after these bytes: the last is not a word character, or
-- there are none.
abbrev pub OpensAfter : (before : List ℕ) → Type 0
OpensAfter before =
    (before ≡ []) ⊎ ((first : List ℕ) × (byte : ℕ) × (before ≡ first ++ byte ∷ []) × (is_word_byte byte ≡ false))

-- ClosesBefore holds if a word may end before these bytes: the first is not a word character, or
-- there are none.
abbrev pub ClosesBefore : (after : List ℕ) → Type 0
ClosesBefore [] = ⊤
ClosesBefore (byte ∷ after) = is_word_byte byte ≡ false

-- IsPrefix holds for the bytes that may come before the digits: none, or `0x`.
abbrev pub IsPrefix : List ℕ → Type 0
IsPrefix text = (text ≡ []) ⊎ (text ≡ codes "0x")

-- IsJoint holds for the bytes that may be between the halves: none, an underscore or a colon.
abbrev pub IsJoint : List ℕ → Type 0
IsJoint text = (text ≡ []) ⊎ ((text ≡ codes "_") ⊎ (text ≡ codes ":"))

-- IsTextOf holds if `text` is the word: `0x` or not, the 16 hexadecimal digits of the high half, an
-- underscore, a colon or nothing, and the 16 digits of the low half. Digits have either case.
pub record IsTextOf (text : List ℕ) (word : ℕ) : Type 0 where
  pub prefix : List ℕ
  pub high : List ℕ
  pub joint : List ℕ
  pub low : List ℕ
  pub text_is : text ≡ prefix ++ high ++ joint ++ low
  pub is_prefix : IsPrefix prefix
  pub is_joint : IsJoint joint
  pub half : length high ≡ 16
  pub digits : IsWordText (high ++ low)
  pub word_is : word ≡ digits_value 16 (high ++ low)

-- EndsWord holds if `before` ends in a text of the word, and no word character comes right before
-- this text.
pub record EndsWord (before : List ℕ) (word : ℕ) : Type 0 where
  pub first : List ℕ
  pub text : List ℕ
  pub before_is : before ≡ first ++ text
  pub is_text : IsTextOf text word
  pub opens : OpensAfter first

-- WordEnds holds if the word ends between `before` and `after`: a text of it does, with no word
-- character right before it, and none right after it.
abbrev pub WordEnds : (before after : List ℕ) (word : ℕ) → Type 0
WordEnds before after word = EndsWord before word × ClosesBefore after

-- AddsLine holds if `added` is a space and the one-line form of the word, as a tagged word.
pub record AddsLine (word : ℕ) (added : List ℕ) : Type 0 where
  pub line : List ℕ
  pub is_line : IsWordLine word true line
  pub added_is : added ≡ codes " " ++ line

-- IsAdded holds if `added` is what belongs between `before` and `after`: the line of the word that
-- ends there, or nothing if none does.
abbrev pub IsAdded : (before after added : List ℕ) → Type 0
IsAdded before after added =
    ((word : ℕ) × WordEnds before after word × AddsLine word added)
    ⊎ (((word : ℕ) → ¬ WordEnds before after word) × (added ≡ []))

-- Annotates holds if `output` is the bytes of `text`, which come after `before`, with what belongs
-- before each of them, and after the last.
abbrev pub Annotates : (before text output : List ℕ) → Type 0
Annotates before [] output = IsAdded before [] output
Annotates before (byte ∷ text) output =
    (added : List ℕ) × (rest : List ℕ) × (output ≡ added ++ byte ∷ rest) × IsAdded before (byte ∷ text) added
    × Annotates (before ++ byte ∷ []) text rest

-- WritesAnnotated holds if the sink took the text with the line of each word after the word.
pub record WritesAnnotated (text : List ℕ) (taken taken_now : Option (List ℕ)) : Type 0 where
  pub output : List ℕ
  pub annotates : Annotates [] text output
  pub written : Appends taken taken_now output

-- WritesStart holds if the sink took a prefix of the text, annotated. At most 63 bytes of the text
-- are missing, and all of them are word characters.
pub record WritesStart (text : List ℕ) (taken taken_now : Option (List ℕ)) : Type 0 where
  pub start : List ℕ
  pub rest : List ℕ
  pub text_is : text ≡ start ++ rest
  pub run : IsRun rest
  pub short : length rest < 64
  pub annotated : WritesAnnotated start taken taken_now

-- StopsInStart holds if the sink took a prefix of an annotated prefix of the text, of which at most
-- 32,768 bytes are lost.
pub record StopsInStart (text : List ℕ) (taken taken_now : Option (List ℕ)) : Type 0 where
  pub start : List ℕ
  pub rest : List ℕ
  pub text_is : text ≡ start ++ rest
  pub output : List ℕ
  pub annotates : Annotates [] start output
  pub count : ℕ
  pub within : count ≤ length output
  pub lost : length output ≤ count + 32768
  pub written : Appends taken taken_now (take count output)

-- AnnotatesText holds if the bytes written are those for `text`, which the source gave. By the
-- result they are all of it, annotated, or the part before the failure of the source or of the sink.
abbrev pub AnnotatesText : (text : List ℕ) (left taken taken_now : Option (List ℕ)) → Result Summary IoError → Type 0
AnnotatesText text left taken taken_now (Ok summary) =
    IsAtEnd left × WritesAnnotated text taken taken_now × (summary.any_error ≡ false)
AnnotatesText text left taken taken_now (Err Read) = WritesStart text taken taken_now
AnnotatesText text left taken taken_now (Err Write) = StopsInStart text taken taken_now

-- AnnotatesGiven holds if the bytes written are those for some text that the source gave. If the
-- source says which bytes are unread, this text is a prefix of them.
pub record AnnotatesGiven (input input_now : InputState) (output output_now : OutputState) (result : Result Summary IoError) : Type 0 where
  pub text : List ℕ
  pub given : Consumes input.unread input_now.unread text
  pub annotates : AnnotatesText text input_now.unread output.taken output_now.taken result
  pub outcome : IsOutcome input_now output_now result
