-- The command lines that are accepted, and the command that each requests.
use Rattle.std.specs.Prelude.{cond, ⊤, true, false, ◌≡◌, ◌≤◌, ◌&&◌, ◌||◌, ℕ, Bool, not, List, [], ◌∷◌, Option, Some, None, IfSome, IsSome, is_ok, is_some, codes, option_map, unwrap_or, Result, Ok, if◌then◌else◌}
use Rattle.std.specs.Borrow.{Bor}
use Rattle.std.specs.Option.{option_map_or}
use Rattle.std.specs.Str.{bytes_eq}
use Rattle.std.specs.Str.Parse.{IsNumeral, digits_value, without_leading_plus}
pub use Rattle.cli.specs.Usage.{IsProgram, choice_option, flag_option, format_names, order_names, program, slots_option, summary_names}
use Rattle.clap.specs.Kinds.{or_else}
use Rattle.clap.specs.Words.{App, Kinds, Row, Text, fault_of, first_of, one_of, subcommand_of, takes}
use Rattle.clap.specs.declared.error.kind.ErrorKind.{ErrorKind}
use Rattle.clap.specs.declared.error.kind.ErrorKind.TheVariants.{ArgumentConflict, MissingRequiredArgument, ValueValidation}
use Rattle.cc_word.specs.declared.refusal.Refusal.{Refusal}
use Rattle.cc_bounds.specs.declared.align.Align.{Align}
use Rattle.cc_bounds.specs.declared.align.Align.TheVariants.{One, Sixteen}
use Rattle.cc_values.specs.Values.{address_in, permissions_in}
use Rattle.cli.specs.declared.invocation.DecodeValues.{DecodeValues}
use Rattle.cli.specs.declared.invocation.PoolTexts.{PoolTexts}
use Rattle.cli.specs.declared.invocation.ReplayOutput.{ReplayOutput}
use Rattle.cli.specs.declared.invocation.ReplayOutput.TheVariants.{Summary, Sizes, Chart, Script, Series}
use Rattle.cli.specs.declared.invocation.ReplayValues.{ReplayValues}
use Rattle.cli.specs.declared.invocation.SearchValues.{SearchValues}
use Rattle.cli.specs.declared.invocation.SummaryFormat.{SummaryFormat}
use Rattle.cli.specs.declared.invocation.SummaryFormat.TheVariants as summary
use Rattle.cc_io.specs.declared.input_form.ByteOrder.TheVariants.{Little, Big}
use Rattle.cc_io.specs.declared.input_form.InputForm.{InputForm}
use Rattle.cc_io.specs.declared.input_form.InputForm.TheVariants.{Lines, Bytes}
use Rattle.cc_io.specs.declared.format.Format.{Format}
use Rattle.cc_io.specs.declared.format.Format.TheVariants.{Columns, Csv, Fixed, Json}
use Rattle.cc_io.specs.declared.format.Format.TheVariants as format
use Rattle.cli.specs.declared.invocation.Invocation.{Invocation}
use Rattle.cli.specs.declared.invocation.Invocation.TheVariants.{Annotate, Ask, Decode, DecodeCore, Map, Plan, Replay, RoundList, Run}
use Rattle.cli.specs.declared.question.Base.{Base}
use Rattle.cli.specs.declared.question.Question.{Question}
use Rattle.cli.specs.declared.question.Question.TheVariants.{DrawWindow, Explain, ExplainLength, Round, Show}

-- ---- the command and the values that clap found

-- The value of decimal digits, with or without a leading plus.
abbrev pub decimal_value : Text → ℕ
decimal_value text = digits_value 10 (without_leading_plus text)

-- `IsLimit` holds if the limit is the value of `--slots`, or 4,096 if it is not given, and is from 1 to 65,536.
pub record IsLimit (given : Option Text) (limit : ℕ) : Type 0 where
  pub value : limit ≡ option_map_or decimal_value given 4096
  pub from_one : 1 ≤ limit
  pub at_most : limit ≤ 65536

-- `IsChosen` holds if the value is the one that the given text names, or the default if no text is given.
abbrev pub IsChosen : {A : Type 0} → (named : Text → Option A) → (default : A) → (given : Option Text) → A → Type 0
IsChosen named default None value = value ≡ default
IsChosen named default (Some text) value = named text ≡ Some value

-- The alignment that a text names, if it names one.
abbrev pub align_named : Text → Option Align
align_named text = if bytes_eq text (codes "1") then Some One else if bytes_eq text (codes "16") then Some Sixteen else None

-- `IsRead` holds if the value is the one that the given text is read as, or `None` if no text is given.
abbrev pub IsRead : {A : Type 0} → (read : Text → Result A Refusal) → (given : Option Text) → Option A → Type 0
IsRead read given value = option_map read given ≡ option_map Ok value

-- Whether a text that is given is read as a value.
abbrev pub is_read : {A : Type 0} → (read : Text → Result A Refusal) → (given : Option Text) → Bool
is_read read given = option_map_or (λ text. is_ok (read text)) given true

-- The format that a text names, if it names one.
abbrev pub format_named : Text → Option Format
format_named text =
    if bytes_eq text (codes "columns") then Some Columns
    else if bytes_eq text (codes "text") then Some format.Text
    else if bytes_eq text (codes "fixed") then Some Fixed
    else if bytes_eq text (codes "csv") then Some Csv
    else if bytes_eq text (codes "json") then Some Json
    else None

-- The format of a summary that a text names, if it names one.
abbrev pub summary_named : Text → Option SummaryFormat
summary_named text =
    if bytes_eq text (codes "text") then Some summary.Text
    else if bytes_eq text (codes "csv") then Some summary.Csv
    else if bytes_eq text (codes "json") then Some summary.Json
    else None

-- The input form of raw bytes in the order that a text names, if it names one.
abbrev pub input_named : Text → Option InputForm
input_named text = if bytes_eq text (codes "little") then Some (Bytes Little) else if bytes_eq text (codes "big") then Some (Bytes Big) else None

-- Whether the value of an option without one is `true`, which clap has if the option was given.
abbrev pub is_on : (value : Option Text) → Bool
is_on value = option_map_or (λ text. bytes_eq text (codes "true")) value false

-- The format of `show`: the one that `--format` names, the line with `--line`, or none without both.
abbrev pub shown_format : (line : Bool) (given : Option Text) → Option Format
shown_format line (Some text) = format_named text
shown_format true None = Some format.Text
shown_format false None = None

-- The name of the command that asks the question.
abbrev pub question_command : Question → Text
question_command (Show word format) = codes "show"
question_command (Round base size) = codes "round"
question_command (Explain word) = codes "explain"
question_command (DrawWindow word) = codes "explain"
question_command (ExplainLength base size) = codes "explain"

-- The name of the command.
abbrev pub command_name_of : Invocation → Text
command_name_of (Ask question) = question_command question
command_name_of (Run limit stats file) = codes "run"
command_name_of (Plan limit pool align stats file) = codes "plan"
command_name_of (Map limit pool align svg file) = codes "map"
command_name_of (Replay values file) = codes "replay"
command_name_of (Decode input format values file) = codes "decode"
command_name_of (DecodeCore format search file) = codes "decode"
command_name_of (Annotate file) = codes "annotate"
command_name_of (RoundList base file) = codes "round"

-- `HasPool` holds if the texts of the pool are the values of BASE and LENGTH.
abbrev pub HasPool : List Row → PoolTexts → Type 0
HasPool rows pool = (first_of (codes "base") rows ≡ Some pool.base.now) × (first_of (codes "length") rows ≡ Some pool.length.now)

-- `HasFile` holds if the file is the value of FILE, or `None` if FILE is not given.
abbrev pub HasFile : List Row → Option (Bor Text) → Type 0
HasFile rows file = first_of (codes "file") rows ≡ option_map (λ text. text.now) file

-- `HasWordAlone` holds if WORD has this value, and `--length` and `--base` have none.
abbrev pub HasWordAlone : List Row → (word : Text) → Type 0
HasWordAlone rows word =
    (first_of (codes "word") rows ≡ Some word) × (first_of (codes "length") rows ≡ None) × (first_of (codes "base") rows ≡ None)

-- `HasSearch` holds if the address and the permissions are those that the values of these options are, or `None` for those that are not
-- given, and `unsealed` says whether `--unsealed` is given.
pub record HasSearch (rows : List Row) (search : SearchValues) : Type 0 where
  pub holds : IsRead address_in (first_of (codes "holds") rows) search.holds
  pub perms : IsRead permissions_in (first_of (codes "perms") rows) search.perms
  pub unsealed : search.unsealed ≡ is_on (first_of (codes "unsealed") rows)

-- `HasDecodeValues` holds if the numbers, the file and the search are those that the values of these options are, or `None` for those that
-- are not given.
pub record HasDecodeValues (rows : List Row) (values : DecodeValues) : Type 0 where
  pub skip : IsRead address_in (first_of (codes "skip") rows) values.skip
  pub count : IsRead address_in (first_of (codes "count") rows) values.count
  pub at : IsRead address_in (first_of (codes "at") rows) values.at
  pub tags : first_of (codes "tags") rows ≡ option_map (λ text. text.now) values.tags
  pub search : HasSearch rows values.search

-- The output of `replay` by the format of tables and the options that are given: the summary without one. `None` if two are given.
abbrev pub replay_output : SummaryFormat → (sizes svg script : Bool) → (each : Option (Bor Text)) → Option ReplayOutput
replay_output format false false false None = Some (Summary format)
replay_output format true false false None = Some (Sizes format)
replay_output format false true false None = Some Chart
replay_output format false false true None = Some Script
replay_output format false false false (Some text) = Some (Series text)
replay_output format _ _ _ _ = None

-- `HasOutput` holds if the values of `--summary`, `--sizes`, `--svg`, `--script` and `--each` give the output.
pub record HasOutput (rows : List Row) (output : Option ReplayOutput) : Type 0 where
  pub format : SummaryFormat
  pub each : Option (Bor Text)
  pub is_format : IsChosen summary_named summary.Text (first_of (codes "summary") rows) format
  pub is_each : first_of (codes "each") rows ≡ option_map (λ text. text.now) each
  pub is_output :
      output
      ≡ replay_output format (is_on (first_of (codes "sizes") rows)) (is_on (first_of (codes "svg") rows)) (is_on (first_of (codes "script") rows)) each

-- `HasReplayValues` holds if these options have these values, where a text is `None` if its option is not given, and the options of the
-- output give it.
pub record HasReplayValues (rows : List Row) (values : ReplayValues) : Type 0 where
  pub align : IsChosen align_named One (first_of (codes "align") rows) values.align
  pub strict : values.strict ≡ is_on (first_of (codes "strict") rows)
  pub realloc : first_of (codes "realloc") rows ≡ option_map (λ text. text.now) values.realloc
  pub sweep : first_of (codes "sweep") rows ≡ option_map (λ text. text.now) values.sweep
  pub least : first_of (codes "min") rows ≡ option_map (λ text. text.now) values.least
  pub pool : first_of (codes "pool") rows ≡ option_map (λ text. text.now) values.pool
  pub format : first_of (codes "format") rows ≡ option_map (λ text. text.now) values.format
  pub output : HasOutput rows values.output

-- `IsBase` holds if the base has this text and its address.
abbrev pub IsBase : Text → Base → Type 0
IsBase text base = (base.text.now ≡ text) × (address_in text ≡ Ok base.address)

-- `HasBase` holds if the base is the value of `--base`, or `None` if it is not given.
abbrev pub HasBase : List Row → Option Base → Type 0
HasBase rows None = first_of (codes "base") rows ≡ None
HasBase rows (Some base) = (text : Text) × (first_of (codes "base") rows ≡ Some text) × IsBase text base

-- `HasTexts` holds if the texts of the question are the values that clap found. The arguments of `explain` that the
-- question has no text for have no value, and a missing `--base` is `0`.
abbrev pub HasTexts : List Row → Question → Type 0
HasTexts rows (Show word format) =
    (first_of (codes "word") rows ≡ Some word.now)
    × (format ≡ shown_format (is_on (first_of (codes "line") rows)) (first_of (codes "format") rows))
HasTexts rows (Round base size) =
    HasBase rows base × (first_of (codes "list") rows ≡ None) × (first_of (codes "length") rows ≡ Some size.now)
HasTexts rows (Explain word) = HasWordAlone rows word.now × (is_on (first_of (codes "svg") rows) ≡ false)
HasTexts rows (DrawWindow word) = HasWordAlone rows word.now × (is_on (first_of (codes "svg") rows) ≡ true)
HasTexts rows (ExplainLength base size) =
    (first_of (codes "word") rows ≡ None) × (first_of (codes "length") rows ≡ Some size.now)
    × IsBase (unwrap_or (first_of (codes "base") rows) (codes "0")) base × (is_on (first_of (codes "svg") rows) ≡ false)

-- Whether an option of other inputs than core files is given, which says their order, their place or their tags.
abbrev pub has_other_input : List Row → Bool
has_other_input rows =
    is_some (first_of (codes "bytes") rows) || (is_some (first_of (codes "skip") rows) || (is_some (first_of (codes "count") rows)
    || (is_some (first_of (codes "at") rows) || is_some (first_of (codes "tags") rows))))

-- `HasValues` holds if the values of the command are those that clap found.
abbrev pub HasValues : List Row → Invocation → Type 0
HasValues rows (Ask question) = HasTexts rows question
HasValues rows (Run limit stats file) =
    IsLimit (first_of (codes "slots") rows) limit × (stats ≡ is_on (first_of (codes "stats") rows)) × HasFile rows file
HasValues rows (Plan limit pool align stats file) =
    IsLimit (first_of (codes "slots") rows) limit × IsChosen align_named One (first_of (codes "align") rows) align
    × (stats ≡ is_on (first_of (codes "stats") rows)) × HasPool rows pool × HasFile rows file
HasValues rows (Map limit pool align svg file) =
    IsLimit (first_of (codes "slots") rows) limit × IsChosen align_named One (first_of (codes "align") rows) align
    × (svg ≡ is_on (first_of (codes "svg") rows)) × HasPool rows pool × HasFile rows file
HasValues rows (Replay values file) = HasReplayValues rows values × HasFile rows file
HasValues rows (Decode input format values file) =
    (is_on (first_of (codes "elf") rows) ≡ false) × IsChosen format_named Columns (first_of (codes "format") rows) format
    × IsChosen input_named Lines (first_of (codes "bytes") rows) input × HasDecodeValues rows values × HasFile rows file
HasValues rows (DecodeCore format search file) =
    (is_on (first_of (codes "elf") rows) ≡ true) × (has_other_input rows ≡ false)
    × IsChosen format_named Columns (first_of (codes "format") rows) format × HasSearch rows search × HasFile rows file
HasValues rows (Annotate file) = HasFile rows file
HasValues rows (RoundList base file) =
    HasBase rows base × (first_of (codes "list") rows ≡ Some file.now) × (first_of (codes "length") rows ≡ None)

-- `IsInvocation` holds if clap found this command, with these values.
abbrev pub IsInvocation : Option (Text × List Row) → Invocation → Type 0
IsInvocation found invocation = (rows : List Row) × (found ≡ Some (command_name_of invocation, rows)) × HasValues rows invocation

-- ---- what clap does not check of the values of `explain`, `round`, `decode` and `show`: that they are accepted together, and are numbers or
-- permissions

-- The kind of error of a value, if it is not of its form.
abbrev pub value_mistake : (is_read : Bool) → Option ErrorKind
value_mistake is_read = if is_read then None else Some ValueValidation

-- The kind of error of the given values, if there is one: WORD excludes `--length` and `--base`, one of WORD and
-- `--length` is required, `--length` excludes `--svg`, and the base is an address.
abbrev pub choice_mistake : (has_word has_length has_base has_svg is_address : Bool) → Option ErrorKind
choice_mistake has_word has_length has_base has_svg is_address =
    if has_word then (if has_length || has_base then Some ArgumentConflict else None)
    else if not has_length then Some MissingRequiredArgument
    else if has_svg then Some ArgumentConflict else value_mistake is_address

-- The kind of error of the values of `explain` in these rows, if there is one.
abbrev pub choice_mistake_of : List Row → Option ErrorKind
choice_mistake_of rows =
    choice_mistake (is_some (first_of (codes "word") rows)) (is_some (first_of (codes "length") rows)) (is_some (first_of (codes "base") rows))
    (is_on (first_of (codes "svg") rows)) (is_read address_in (first_of (codes "base") rows))

-- The kind of error of the given values, if there is one: one of N and `--list` is required, each excludes the other, and the base is an
-- address.
abbrev pub list_mistake : (has_list has_length is_address : Bool) → Option ErrorKind
list_mistake has_list has_length is_address =
    if has_list && has_length then Some ArgumentConflict
    else if has_list || has_length then value_mistake is_address else Some MissingRequiredArgument

-- The kind of error of the values of `round` in these rows, if there is one.
abbrev pub list_mistake_of : List Row → Option ErrorKind
list_mistake_of rows =
    list_mistake (is_some (first_of (codes "list") rows)) (is_some (first_of (codes "length") rows)) (is_read address_in (first_of (codes "base") rows))

-- The kind of error of the given values, if there is one: `--elf` excludes the options of other inputs, `--tags` requires `--bytes`, and the
-- others are read.
abbrev pub search_mistake : (has_elf has_other has_tags has_bytes is_read : Bool) → Option ErrorKind
search_mistake has_elf has_other has_tags has_bytes is_read =
    if has_elf && has_other then Some ArgumentConflict else if has_tags && not has_bytes then Some MissingRequiredArgument else value_mistake is_read

-- The kind of error of the values of `decode` in these rows, if there is one.
abbrev pub search_mistake_of : List Row → Option ErrorKind
search_mistake_of rows = search_mistake (is_on (first_of (codes "elf") rows)) (has_other_input rows) (is_some (first_of (codes "tags") rows)) (is_some (first_of (codes "bytes") rows))
    (is_read address_in (first_of (codes "skip") rows) && (is_read address_in (first_of (codes "count") rows)
    && (is_read address_in (first_of (codes "at") rows)
    && (is_read address_in (first_of (codes "holds") rows) && is_read permissions_in (first_of (codes "perms") rows)))))

-- The kind of error of the values of `show` in these rows, if there is one: `--line` excludes `--format`.
abbrev pub show_mistake_of : List Row → Option ErrorKind
show_mistake_of rows =
    if is_on (first_of (codes "line") rows) && is_some (first_of (codes "format") rows) then Some ArgumentConflict else None

-- The kind of error of these values of the command of this name, if there is one: only `explain`, `round`, `decode` and `show` have
-- one.
abbrev pub named_mistake : (name : Text) → List Row → Option ErrorKind
named_mistake name rows =
    if bytes_eq name (codes "explain") then choice_mistake_of rows
    else if bytes_eq name (codes "round") then list_mistake_of rows
    else if bytes_eq name (codes "decode") then search_mistake_of rows
    else if bytes_eq name (codes "show") then show_mistake_of rows
    else None

-- The kind of error of the values of the command that clap found, if there is one.
abbrev pub choice_mistake_in : Option (Text × List Row) → Option ErrorKind
choice_mistake_in None = None
choice_mistake_in (Some found) = named_mistake found.0 found.1

-- Whether the arguments are accepted: clap accepts them, and their values have no error.
abbrev pub is_taken : App → List Text → Bool
is_taken app words = takes app words && not (is_some (choice_mistake_in (subcommand_of app words)))

-- The list of the kind of an error, if there is one.
abbrev pub kinds_in : Option ErrorKind → Kinds
kinds_in None = []
kinds_in (Some kind) = kind ∷ []

-- The kinds of error that the arguments can give: clap's, or that of the values if clap has none.
abbrev pub mistakes_of : App → List Text → Kinds
mistakes_of app words = or_else (fault_of app words) (kinds_in (choice_mistake_in (subcommand_of app words)))

-- ---- the values that a command needs

-- `HasText` holds if the name has a value.
abbrev pub HasText : Text → List Row → Type 0
HasText name rows = (text : Text) × (first_of name rows ≡ Some text)

-- `HasPoolTexts` holds if BASE and LENGTH have values.
abbrev pub HasPoolTexts : List Row → Type 0
HasPoolTexts rows = HasText (codes "base") rows × HasText (codes "length") rows

-- `IsLimitText` holds if the text is a decimal number from 1 to 65,536, with or without a leading plus.
pub record IsLimitText (text : Text) : Type 0 where
  pub numeral : IsNumeral 10 (without_leading_plus text)
  pub from_one : 1 ≤ decimal_value text
  pub at_most : decimal_value text ≤ 65536

-- `HasLimit` holds if `--slots` has no value, or a number from 1 to 65,536, which is read as it is written.
pub record HasLimit (rows : List Row) : Type 0 where
  pub read : one_of (codes "slots") rows ≡ first_of (codes "slots") rows
  pub limit : IfSome (first_of (codes "slots") rows) IsLimitText

-- `HasChoice` holds if the option has no value, or one that names a choice.
abbrev pub HasChoice : {A : Type 0} → (named : Text → Option A) → (name : Text) → List Row → Type 0
HasChoice named name rows = IfSome (first_of name rows) (λ text. IsSome (named text))

-- `HasWanted` holds if the command of this name is one of the program's, and has the values that it needs.
abbrev pub HasWanted : Text → List Row → Type 0
HasWanted name rows =
    cond (bytes_eq name (codes "show")) (HasText (codes "word") rows × HasChoice format_named (codes "format") rows)
    (cond (bytes_eq name (codes "round")) (list_mistake_of rows ≡ None)
    (cond (bytes_eq name (codes "run")) (HasLimit rows)
    (cond (bytes_eq name (codes "plan")) (HasPoolTexts rows × HasLimit rows × HasChoice align_named (codes "align") rows)
    (cond (bytes_eq name (codes "map")) (HasPoolTexts rows × HasLimit rows × HasChoice align_named (codes "align") rows)
    (cond (bytes_eq name (codes "replay")) (HasChoice align_named (codes "align") rows × HasChoice summary_named (codes "summary") rows)
    (cond (bytes_eq name (codes "decode")) (HasChoice format_named (codes "format") rows × HasChoice input_named (codes "bytes") rows × (search_mistake_of rows ≡ None))
    (cond (bytes_eq name (codes "annotate")) ⊤
    (cond (bytes_eq name (codes "explain")) (choice_mistake_of rows ≡ None) ⊥))))))))

-- `HasItsTexts` holds if clap found a command of the program, with the values that it needs.
abbrev pub HasItsTexts : Option (Text × List Row) → Type 0
HasItsTexts found = (name : Text) × (rows : List Row) × (found ≡ Some (name, rows)) × HasWanted name rows
