-- The replies to the entries of an input.
use Rattle.std.specs.Prelude.{◌≡◌, ◌⊎◌, ℕ, true, List, [], ◌∷◌, ◌++◌, Option, None, Some, codes, decimal, length, ⊤}
use Rattle.cc_word.specs.declared.refusal.Refusal.TheVariants.{Syntax, Unfinished}
use Rattle.cc_io.specs.Text.{with_line_feed, refusal_text}
use Rattle.cc_word.specs.Refusal.{code_of, name_of}
use Rattle.cc_word.specs.declared.refusal.Refusal.{Refusal}
use Rattle.cc_io.specs.Answers.{Answer}
use Rattle.cc_io.specs.Serving.{EndingClaim}
use Rattle.cc_decode.specs.Input.{IsWordEntry, word_of_entry}
use Rattle.cc_decode.specs.Place.{after_entry, options_after, place_text}
use Rattle.cc_decode.specs.Row.{IsWordRow, header_text}
use Rattle.cc_decode.specs.Search.{IsListedWord}
use Rattle.cc_decode.specs.Tags.{IsTagged, lacks_bit}
use Rattle.cc_io.specs.declared.format.Format.{Format}
use Rattle.cc_io.specs.declared.format.Format.TheVariants.{Columns, Csv, Fixed, Json, Text}
use Rattle.cc_io.specs.declared.input_form.InputForm.TheVariants.{Lines}
use Rattle.cc_decode.specs.declared.options.Options.{Options}
use Rattle.cc_decode.specs.declared.options.Search.{Search}

-- IsRowLine holds if `text` is the address of the word, if there is one, the row of the word in the
-- format, and a line feed.
pub record IsRowLine (format : Format) (at : Option ℕ) (word : ℕ) (text : List ℕ) : Type 0 where
  pub row : List ℕ
  pub is_row : IsWordRow format word row
  pub text_is : text ≡ with_line_feed (place_text format at ++ row)

-- IsWanted holds if the options request the row of the word, the first to which they apply.
abbrev pub IsWanted : Options → (word : ℕ) → Type 0
IsWanted options word = IsTagged options.tags × IsListedWord options.search word

-- IsWordAnswer holds if `text` is the reply to a word: its line if that is requested, and otherwise
-- nothing.
abbrev pub IsWordAnswer : Options → (word : ℕ) (text : List ℕ) → Type 0
IsWordAnswer options word text =
    (IsWanted options word × IsRowLine options.format options.at word text) ⊎ ((¬ IsWanted options word) × (text ≡ []))

-- The line of a refusal in a format: `error `, its code and its name, or an object with both.
abbrev pub refusal_line : Format → Refusal → List ℕ
refusal_line Columns refusal = with_line_feed (refusal_text refusal)
refusal_line Text refusal = with_line_feed (refusal_text refusal)
refusal_line Fixed refusal = with_line_feed (refusal_text refusal)
refusal_line Csv refusal = with_line_feed (refusal_text refusal)
refusal_line Json refusal =
    with_line_feed (codes "{\"error\":" ++ decimal (code_of refusal) ++ codes ",\"name\":\"" ++ name_of refusal ++ codes "\"}")

-- The reply to an entry that is not a word: the refusal `syntax`, or nothing in a search.
abbrev pub refused_text : Format → Option Search → List ℕ
refused_text format None = refusal_line format Syntax
refused_text format (Some search) = []

-- IsAnswer holds if the reply is the one to the entry, the first to which the options apply. An
-- entry that is not a word is an error, in a search too, and so is a word without a tag bit, if there
-- are tags.
abbrev pub IsAnswer : Options → (entry : List ℕ) → Answer → Type 0
IsAnswer options entry answer =
    (IsWordEntry options.input entry × IsWordAnswer options (word_of_entry options.input entry) answer.text × (answer.is_error ≡ lacks_bit options.tags))
    ⊎ ((¬ IsWordEntry options.input entry) × (answer.text ≡ refused_text options.format options.search) × (answer.is_error ≡ true))

-- AreAnswers holds if the replies are those to the entries, one for each.
abbrev pub AreAnswers : Options → (entries : List (List ℕ)) → List Answer → Type 0
AreAnswers options [] [] = ⊤
AreAnswers options (entry ∷ entries) (answer ∷ answers) = IsAnswer options entry answer × AreAnswers (after_entry options) entries answers
AreAnswers options [] (answer ∷ answers) = ⊥
AreAnswers options (entry ∷ entries) [] = ⊥

-- IsLastRow holds if `row` is the reply to the word that trailing bytes are, a line without its line feed,
-- or is empty and they are not a word.
abbrev pub IsLastRow : Options → (rest row : List ℕ) → Type 0
IsLastRow options rest row =
    (IsWordEntry options.input rest × IsWordAnswer options (word_of_entry options.input rest) row)
    ⊎ ((¬ IsWordEntry options.input rest) × (row ≡ []))

-- IsUnfinished holds if `text` is the reply to trailing bytes: that to the word that they are, if they are
-- one, and then the refusal `unfinished`.
pub record IsUnfinished (options : Options) (rest text : List ℕ) : Type 0 where
  pub row : List ℕ
  pub is_row : IsLastRow options rest row
  pub text_is : text ≡ row ++ refusal_line options.format Unfinished

-- IsEnding holds if `text` is the reply to trailing bytes, or is empty and there are none.
abbrev pub IsEnding : Options → (rest text : List ℕ) → Type 0
IsEnding options [] text = text ≡ []
IsEnding options (byte ∷ rest) text = IsUnfinished options (byte ∷ rest) text

-- EndsListing holds if `text` is the reply to the bytes after these entries.
abbrev pub EndsListing : Options → EndingClaim
EndsListing options entries rest text = IsEnding (options_after options (length entries)) rest text

-- The options of a listing in a format of all lines, without addresses.
abbrev pub plain_lines : Format → Options
plain_lines format = record { input = Lines; format = format; at = None; tags = None; search = None }

-- IsShown holds if `answer` is the listing of one string in a format: the header, and the reply to a line
-- that is the string.
pub record IsShown (format : Format) (text answer : List ℕ) : Type 0 where
  pub reply : Answer
  pub is_reply : IsAnswer (plain_lines format) text reply
  pub answer_is : answer ≡ header_text format ++ reply.text
