-- The replies of a decoder. No public clause cites this file.
use Rattle.std.specs.Prelude.{◌≡◌, ◌+◌, ℕ, Bool, true, false, List, ◌++◌, Option, None, Some}
use Rattle.cc_io.specs.Answers.{Relation}
use Rattle.cc_decode.specs.Part.{is_part_over, left_after}
use Rattle.cc_decode.specs.Place.{after_entry}
use Rattle.cc_decode.specs.Row.{IsWordRow}
use Rattle.cc_decode.specs.Output.{IsAnswer, IsRowLine, IsUnfinished, IsWordAnswer, refused_text}
use Rattle.cc_decode.specs.Tags.{lacks_bit}
use Rattle.cc_decode.specs.declared.decoder.Decoder.{Decoder}
use Rattle.cc_decode.specs.declared.decoder.PlainDecoder.{PlainDecoder}
use Rattle.cc_io.specs.declared.format.Format.{Format}
use Rattle.cc_decode.specs.declared.options.Options.{Options}

-- The options of a plain decoder: no addresses, and no search.
abbrev pub plain_options : PlainDecoder → Options
plain_options decoder = record { input = decoder.input; format = decoder.format; at = None; tags = None; search = None }

-- AnswersPlainly holds if `text` is the reply to the entry, and the decoder is unchanged.
abbrev pub AnswersPlainly : Relation PlainDecoder
AnswersPlainly old entry text is_error new = IsAnswer (plain_options old) entry (record { text = text; is_error = is_error }) × (new ≡ old)

-- AnswersEntry holds if `text` is the reply to the entry, which is still decoded, and the decoder goes on
-- with the options for the rest of the input.
pub record AnswersEntry (old : Decoder) (entry text : List ℕ) (is_error : Bool) (new : Decoder) : Type 0 where
  pub answer : IsAnswer old.options entry (record { text = text; is_error = is_error })
  pub options : new.options ≡ after_entry old.options
  pub goes_on : is_part_over old.left ≡ false
  pub left : new.left ≡ left_after old.left 1

-- EndsPlainly holds if `text` is the reply to trailing bytes, which is an error.
abbrev pub EndsPlainly : Relation PlainDecoder
EndsPlainly old rest text is_error new = IsUnfinished (plain_options old) rest text × (is_error ≡ true)

-- EndsPart holds if `text` is the reply to trailing bytes, which is an error, and a further entry would still
-- be decoded.
abbrev pub EndsPart : Relation Decoder
EndsPart old rest text is_error new =
    IsUnfinished old.options rest text × (is_error ≡ true) × (is_part_over old.left ≡ false)

-- The maximum length of a row in bytes.
abbrev pub most_row : ℕ
most_row = 430

-- The maximum length of a row with its address and its line feed.
abbrev pub most_line : ℕ
most_line = most_row + 44

-- AppendsRow holds if the row of the word was appended.
pub record AppendsRow (format : Format) (word : ℕ) (old new : List ℕ) : Type 0 where
  pub row : List ℕ
  pub is_row : IsWordRow format word row
  pub written : new ≡ old ++ row

-- AppendsLine holds if the line of the word was appended.
pub record AppendsLine (format : Format) (at : Option ℕ) (word : ℕ) (old new : List ℕ) : Type 0 where
  pub text : List ℕ
  pub is_line : IsRowLine format at word text
  pub written : new ≡ old ++ text

-- AppendsUnfinished holds if the reply to trailing bytes was appended.
pub record AppendsUnfinished (options : Options) (rest old new : List ℕ) : Type 0 where
  pub text : List ℕ
  pub is_reply : IsUnfinished options rest text
  pub written : new ≡ old ++ text

-- AppendsWord holds if the reply to the word was appended.
pub record AppendsWord (options : Options) (word : ℕ) (old new : List ℕ) : Type 0 where
  pub text : List ℕ
  pub is_answer : IsWordAnswer options word text
  pub written : new ≡ old ++ text

-- IsEntryReply holds if `text` is the reply to a word, or that to an entry that is not one, which is an
-- error.
abbrev pub IsEntryReply : Options → (word : Option ℕ) (text : List ℕ) (is_error : Bool) → Type 0
IsEntryReply options None text is_error = (text ≡ refused_text options.format options.search) × (is_error ≡ true)
IsEntryReply options (Some word) text is_error = IsWordAnswer options word text × (is_error ≡ lacks_bit options.tags)

-- AppendsReply holds if the reply to an entry was appended, which is this word, if it is one.
pub record AppendsReply (options : Options) (word : Option ℕ) (old new : List ℕ) (is_error : Bool) : Type 0 where
  pub text : List ℕ
  pub is_reply : IsEntryReply options word text is_error
  pub written : new ≡ old ++ text
