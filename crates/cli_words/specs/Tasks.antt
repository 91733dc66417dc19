-- The output of the commands that run no script, by their input.
use Rattle.std.specs.Prelude.{◌≡◌, ℕ, Bool, false, ◌&&◌, ◌||◌, ◌⊎◌, List, OnOk, Option, None, Some, Result, Err, IfOk, IfSome, IsTrue, ◌↔◌}
use Rattle.std.specs.Borrow.{Bor}
use Rattle.clap.specs.Words.{Text}
use Rattle.std.specs.Io.KnownBytes.{Appends}
use Rattle.cc_io.specs.Devices.{OutputState}
use Rattle.cc_io.specs.declared.summary.IoError.{IoError}
use Rattle.cc_io.specs.declared.summary.IoError.TheVariants.{Read}
use Rattle.cc_io.specs.declared.summary.Summary.{Summary}
use Rattle.cc_io.specs.CommandOutput.{WritesAnswer}
use Rattle.cli_words.specs.RoundList.{RoundsList}
use Rattle.cc_io.specs.declared.format.Format.{Format}
use Rattle.cc_decode.specs.declared.options.Options.{Options}
use Rattle.cc_decode.specs.declared.options.Search.{Search}
use Rattle.cc_decode.specs.declared.options.Part.{Part}
use Rattle.cc_decode.specs.Annotate.{AnnotatesGiven}
use Rattle.cc_decode.specs.Core.{ListsCore}
use Rattle.cc_decode.specs.Correct.{Lists}
use Rattle.cli.specs.declared.question.Base.{Base}
use Rattle.cli.specs.declared.question.Question.{Question}
use Rattle.cc_io.specs.Devices.{InputState}
use Rattle.cli.specs.Devices.{Console, FromInput, GivesAll, Traffic}
use Rattle.cli.specs.declared.input.InputName.{InputName}
use Rattle.cli.specs.declared.input.InputName.TheVariants.{File}
use Rattle.cli_words.specs.NumberHint.{hint_if, is_bare_base}
use Rattle.cli_words.specs.Questions.{address_of, IsAnswerTo, IsUnanswerable, question_hint}

-- AnswersQuestion holds if the output for the question was written, or a prefix of it if a write failed. The summary says
-- whether it is an error. After an output at `Ok`, the hint on the question was written, if there is one.
pub record AnswersQuestion (question : Question) (hints : Bool) (output output_now errors errors_now : OutputState) (result : Result Summary IoError) : Type 0 where
  pub written : WritesAnswer (IsAnswerTo question) output output_now result
  pub error_is : IfOk result (λ summary. IsTrue summary.any_error ↔ IsUnanswerable question)
  pub hinted : OnOk result (errors_now.has_failed ≡ false → Appends errors.taken errors_now.taken (question_hint hints question))

-- ListsWords holds if the rows of the words of the part that the input gave were written, up to a failure.
abbrev pub ListsWords : Part → Options → Traffic → Result Summary IoError → Type 0
ListsWords part options traffic result = Lists part options traffic.source traffic.source_now traffic.output traffic.output_now result

-- ListsTagged holds if the rows of the tagged words were written, up to a failure, for options with the bytes of the file of the tags;
-- or reading the tags failed, and nothing was written.
abbrev pub ListsTagged : (file input : InputName) (part : Part) (options : Bor (List ℕ) → Options) → Console → Result Summary IoError → Type 0
ListsTagged file input part options console result =
    ((result ≡ Err Read) × (console.output_now.taken ≡ console.output.taken))
    ⊎ ((bits : Bor (List ℕ)) × IfSome (console.input file) (λ bytes. bits.now ≡ bytes) × FromInput input console (ListsWords part (options bits)) result)

-- ListsInput holds if the rows of the words of an input were written, up to a failure: of the tagged ones, if there is a file of tags.
abbrev pub ListsInput : (tags : Option (Bor Text)) (input : InputName) (part : Part) (options : Option (Bor (List ℕ)) → Options) → Console
    → Result Summary IoError → Type 0
ListsInput None input part options console result = FromInput input console (ListsWords part (options None)) result
ListsInput (Some path) input part options console result = ListsTagged (File path) input part (λ bits. options (Some bits)) console result

-- GaveAll holds if an input, whose bytes are these if they are known, gave these bytes and has no more.
abbrev pub GaveAll : (known : Option (List ℕ)) (source_now : InputState) (bytes : List ℕ) → Type 0
GaveAll known source_now bytes = (source : InputState) × IfSome known (λ all. source.unread ≡ Some all) × GivesAll source source_now bytes

-- ListsCoreFile holds if the listing of the file that the input gave was written, up to a failure; or reading it failed, and nothing was
-- written.
abbrev pub ListsCoreFile : (input : InputName) → Format → Option Search → Console → Result Summary IoError → Type 0
ListsCoreFile input format search console result =
    ((result ≡ Err Read) × (console.output_now.taken ≡ console.output.taken))
    ⊎ ((bytes : List ℕ) × GaveAll (console.input input) console.source_now bytes × ListsCore format search bytes console.output console.output_now result)

-- AnnotatesWords holds if the text that the input gave was written, with the line of each word after the word, up to a failure.
abbrev pub AnnotatesWords : Traffic → Result Summary IoError → Type 0
AnnotatesWords traffic result = AnnotatesGiven traffic.source traffic.source_now traffic.output traffic.output_now result

-- SeesLengths holds if the output of `round` for each length of the list that the input gave was written, up to a failure. `bare`
-- says whether a line of the list that got a reply may be meant as hexadecimal digits.
abbrev pub SeesLengths : (base : Option ℕ) (bare : Bool) → Traffic → Result Summary IoError → Type 0
SeesLengths base bare traffic result = RoundsList base bare traffic.source traffic.source_now traffic.output traffic.output_now result

-- RoundsLengths holds if the output of `round` for each length of the list that the input gave was written, up to a failure. After
-- an output at `Ok`, the hint was written if hints are given, and the text of the base or a line of the list may be meant as
-- hexadecimal digits.
pub record RoundsLengths (base : Option Base) (hints : Bool) (traffic : Traffic) (result : Result Summary IoError) : Type 0 where
  pub bare : Bool
  pub rounds : SeesLengths (address_of base) bare traffic result
  pub hinted : OnOk result (traffic.errors_now.has_failed ≡ false → Appends traffic.errors.taken traffic.errors_now.taken (hint_if (hints && (is_bare_base base || bare))))
