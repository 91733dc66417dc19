-- The replies of a rounder. No public clause cites this file.
use Rattle.std.specs.Prelude.{◌≡◌, ◌||◌, true}
use Rattle.cc_word.specs.declared.refusal.Refusal.TheVariants.{Unfinished}
use Rattle.cc_io.specs.CommandOutput.{IsRefusalLine}
use Rattle.cc_io.specs.Answers.{Relation}
use Rattle.cli_words.specs.BareDigits.{is_bare_line}
use Rattle.cli_words.specs.RoundList.{IsLengthAnswer}
use Rattle.cli_words.specs.declared.length_list.Rounder.{Rounder}

-- AnswersLength holds if `text` is the output for the line, the base stays, and `bare` counts the line.
abbrev pub AnswersLength : Relation Rounder
AnswersLength old line text is_error new = IsLengthAnswer old.base line (record { text = text; is_error = is_error }) × (new.base ≡ old.base) × (new.bare ≡ (old.bare || is_bare_line line))

-- RefusesLastBytes holds if `text` is `error 2 unfinished`, the output for bytes without a line feed, and `bare` stays.
abbrev pub RefusesLastBytes : Relation Rounder
RefusesLastBytes old rest text is_error new = IsRefusalLine Unfinished text × (is_error ≡ true) × (new.bare ≡ old.bare)
