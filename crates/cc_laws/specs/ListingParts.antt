-- The listing of an input in two parts.
use Rattle.std.specs.Prelude.{◌≡◌, ℕ, Bool, not, ◌||◌, ◌==◌, List, ◌++◌, length}
use Rattle.std.specs.List.{list_any}
use Rattle.cc_io.specs.Answers.{Answer, answers_text}
use Rattle.cc_decode.specs.Input.{input_entries, left_of}
use Rattle.cc_decode.specs.Output.{AreAnswers, EndsListing}
use Rattle.cc_decode.specs.Place.{options_after}
use Rattle.cc_decode.specs.declared.options.Options.{Options}

-- AreListingRows holds if `rows` is the listing of `text` without its header: the reply to each
-- entry, and that to trailing bytes, if any. `any_error` says whether a reply is an error, or
-- there are trailing bytes.
pub record AreListingRows (options : Options) (text rows : List ℕ) (any_error : Bool) : Type 0 where
  pub answers : List Answer
  pub are_answers : AreAnswers options (input_entries options.input text) answers
  pub ending : List ℕ
  pub is_ending : EndsListing options (input_entries options.input text) (left_of options.input text) ending
  pub rows_are : rows ≡ answers_text answers ++ ending
  pub error_is : any_error ≡ (list_any (λ answer. answer.is_error) answers || not (length (left_of options.input text) == 0))

-- RowsInParts holds if `rows` is the rows of `text`, followed by those of `more`. The first entry of
-- `more` has the address after the entries of `text`. `any_error` says whether either part has an
-- error.
pub record RowsInParts (options : Options) (text more rows : List ℕ) (any_error : Bool) : Type 0 where
  pub first : List ℕ
  pub second : List ℕ
  pub first_error : Bool
  pub second_error : Bool
  pub of_text : AreListingRows options text first first_error
  pub of_more : AreListingRows (options_after options (length (input_entries options.input text))) more second second_error
  pub rows_are : rows ≡ first ++ second
  pub error_is : any_error ≡ (first_error || second_error)
