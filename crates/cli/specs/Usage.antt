-- The program and its commands, as clap reads them.
use Rattle.std.specs.Prelude.{◌≡◌, true, pos, List, [], ◌∷◌, Some, codes, fold}
use Rattle.std.specs.Borrow.{Bor}
use Rattle.clap.specs.Walk.{texts}
use Rattle.clap.specs.Words.{App, Rule, Text, new_app, new_rule, with_rule, with_subcommand}
use Rattle.clap.specs.declared.builder.action.ArgAction.TheVariants.{Set, SetTrue}
use Rattle.clap.specs.declared.builder.value_parser.ValueParser.TheVariants.{Names, Signed}
use Rattle.cli.specs.declared.table.Choices.{Choices}
use Rattle.cli.specs.declared.table.CommandRow.{CommandRow}
use Rattle.cli.specs.declared.table.Kind.{Kind}
use Rattle.cli.specs.declared.table.Kind.TheVariants.{Address, Align, Flag, Format, Free, Order, Permissions, Slots, Summary, Valued, Wanted}
use Rattle.cli.specs.declared.table.Row.{Row}

-- An optional argument.
abbrev pub optional_argument : Text → Rule
optional_argument name = record (new_rule name) { action = Some Set; value_names = 1 }

-- A required argument.
abbrev pub wanted_argument : Text → Rule
wanted_argument name = record (optional_argument name) { required = true }

-- An option `--name` with a value.
abbrev pub valued_option : Text → Rule
valued_option name = record (optional_argument name) { long = Some name }

-- An option `--name` whose value is one of these strings.
abbrev pub choice_option : Text → Bor (List (Bor Text)) → Rule
choice_option name choices = record (valued_option name) { parser = Some (Names choices) }

-- The option `--slots N`, whose value is a number from 1 to 65,536.
abbrev pub slots_option : Rule
slots_option = record (valued_option (codes "slots")) { parser = Some (Signed (pos 1) (pos 65536)) }

-- An option `--name` without a value.
abbrev pub flag_option : Text → Rule
flag_option name = record (new_rule name) { long = Some name; action = Some SetTrue }

-- The command `show [--line] [--format FORMAT] WORD`.
abbrev pub show_command : (formats : Bor (List (Bor Text))) → App
show_command formats =
    let options = with_rule (with_rule (new_app (codes "show")) (flag_option (codes "line"))) (choice_option (codes "format") formats) in
    with_rule options (wanted_argument (codes "word"))

-- The command `explain [--svg] [--length N] [--base B] [WORD]`.
abbrev pub explain_command : App
explain_command =
    let drawn = with_rule (new_app (codes "explain")) (flag_option (codes "svg")) in
    let options = with_rule (with_rule drawn (valued_option (codes "length"))) (valued_option (codes "base")) in
    with_rule options (optional_argument (codes "word"))

-- The command `round [--base B] [--list FILE] [N]`.
abbrev pub round_command : App
round_command =
    let options = with_rule (with_rule (new_app (codes "round")) (valued_option (codes "base"))) (valued_option (codes "list")) in
    with_rule options (optional_argument (codes "length"))

-- The command `run [--slots N] [--stats] [FILE]`.
abbrev pub run_command : App
run_command =
    let options = with_rule (with_rule (new_app (codes "run")) slots_option) (flag_option (codes "stats")) in
    with_rule options (optional_argument (codes "file"))

-- A command with `[--slots N] [--align ALIGN]` added.
abbrev pub with_pool_options : App → Bor (List (Bor Text)) → App
with_pool_options command aligns = with_rule (with_rule command slots_option) (choice_option (codes "align") aligns)

-- A command with `BASE LENGTH [FILE]` added.
abbrev pub with_pool : App → App
with_pool command =
    let pool = with_rule (with_rule command (wanted_argument (codes "base"))) (wanted_argument (codes "length")) in
    with_rule pool (optional_argument (codes "file"))

-- The command `plan [--slots N] [--align ALIGN] [--stats] BASE LENGTH [FILE]`.
abbrev pub plan_command : Bor (List (Bor Text)) → App
plan_command aligns = with_pool (with_rule (with_pool_options (new_app (codes "plan")) aligns) (flag_option (codes "stats")))

-- The command `map [--slots N] [--align ALIGN] [--svg] BASE LENGTH [FILE]`.
abbrev pub map_command : Bor (List (Bor Text)) → App
map_command aligns = with_pool (with_rule (with_pool_options (new_app (codes "map")) aligns) (flag_option (codes "svg")))

-- The names of the formats of a summary.
abbrev pub summary_names : List Text
summary_names = codes "text" ∷ codes "csv" ∷ codes "json" ∷ []

-- A command with `[--realloc MODE] [--sweep POLICY] [--min BYTES] [--pool BASE:LENGTH]` added.
abbrev pub with_heap_options : App → App
with_heap_options command =
    let made = with_rule command (valued_option (codes "realloc")) in
    let swept = with_rule (with_rule made (valued_option (codes "sweep"))) (valued_option (codes "min")) in
    with_rule swept (valued_option (codes "pool"))

-- The command `replay [--format FORMAT] [--align ALIGN] [--realloc MODE] [--sweep POLICY] [--min BYTES]
-- [--pool BASE:LENGTH] [--strict] [--summary FORMAT] [--each N] [--sizes] [--svg]
-- [--script] [FILE]`.
abbrev pub replay_command : (aligns summaries : Bor (List (Bor Text))) → App
replay_command aligns summaries =
    let heap = with_heap_options (with_rule (with_rule (new_app (codes "replay")) (valued_option (codes "format"))) (choice_option (codes "align") aligns)) in
    let summed = with_rule (with_rule heap (flag_option (codes "strict"))) (choice_option (codes "summary") summaries) in
    let chosen = with_rule (with_rule summed (valued_option (codes "each"))) (flag_option (codes "sizes")) in
    let drawn = with_rule (with_rule chosen (flag_option (codes "svg"))) (flag_option (codes "script")) in
    with_rule drawn (optional_argument (codes "file"))

-- The names of the formats.
abbrev pub format_names : List Text
format_names = codes "columns" ∷ codes "text" ∷ codes "fixed" ∷ codes "csv" ∷ codes "json" ∷ []

-- The names of the byte orders.
abbrev pub order_names : List Text
order_names = codes "little" ∷ codes "big" ∷ []

-- A command with `[--skip N] [--count N] [--at START] [--holds ADDRESS] [--perms NAMES] [--unsealed]
-- [--tags FILE]` added.
abbrev pub with_search : App → App
with_search command =
    let part = with_rule (with_rule command (valued_option (codes "skip"))) (valued_option (codes "count")) in
    let places = with_rule (with_rule part (valued_option (codes "at"))) (valued_option (codes "holds")) in
    let kinds = with_rule (with_rule places (valued_option (codes "perms"))) (flag_option (codes "unsealed")) in
    with_rule kinds (valued_option (codes "tags"))

-- The command `decode [--format FORMAT] [--bytes ORDER] [--elf] [--skip N] [--count N] [--at START]
-- [--holds ADDRESS] [--perms NAMES] [--unsealed] [--tags FILE] [FILE]`.
abbrev pub decode_command : (formats orders : Bor (List (Bor Text))) → App
decode_command formats orders =
    let forms = with_rule (with_rule (new_app (codes "decode")) (choice_option (codes "format") formats)) (choice_option (codes "bytes") orders) in
    with_rule (with_search (with_rule forms (flag_option (codes "elf")))) (optional_argument (codes "file"))

-- The command `annotate [FILE]`.
abbrev pub annotate_command : App
annotate_command = with_rule (new_app (codes "annotate")) (optional_argument (codes "file"))

-- The program before its commands are added. It requires one of them, and has a version.
abbrev pub bare_program : App
bare_program = let bare = new_app (codes "cheri-cap") in record bare {
  top = record bare.top {
    has_version = true;
    arg_required_else_help = true;
    subcommand_required = true;
    disable_help_subcommand = true;
  };
}

-- A program with `show` and `round` added.
abbrev pub with_words : App → (formats : Bor (List (Bor Text))) → App
with_words program formats = with_subcommand (with_subcommand program (show_command formats).top) round_command.top

-- A program with `run`, `plan` and `map` added.
abbrev pub with_scripts : App → Bor (List (Bor Text)) → App
with_scripts program aligns =
    let runs = with_subcommand (with_subcommand program run_command.top) (plan_command aligns).top in
    with_subcommand runs (map_command aligns).top

-- The whole program, if `--align`, `--format`, `--bytes` and `--summary` accept these strings.
abbrev pub program : (aligns formats orders summaries : Bor (List (Bor Text))) → App
program aligns formats orders summaries =
    let replay = with_subcommand (with_scripts (with_words bare_program formats) aligns) (replay_command aligns summaries).top in
    let words = with_subcommand replay (decode_command formats orders).top in
    with_subcommand (with_subcommand words annotate_command.top) explain_command.top

-- IsProgram holds if `app` is the whole program. `--align` accepts 1 and 16, `--format` the names
-- of the formats, `--bytes` those of the byte orders, and `--summary` those of the formats of a
-- summary, wherever in memory these strings are.
pub record IsProgram (app : App) : Type 0 where
  pub aligns : Bor (List (Bor Text))
  pub are : texts aligns.now ≡ codes "1" ∷ codes "16" ∷ []
  pub formats : Bor (List (Bor Text))
  pub are_formats : texts formats.now ≡ format_names
  pub orders : Bor (List (Bor Text))
  pub are_orders : texts orders.now ≡ order_names
  pub summaries : Bor (List (Bor Text))
  pub are_summaries : texts summaries.now ≡ summary_names
  pub is : app ≡ program aligns formats orders summaries

-- ---- definitions that only private contracts cite

-- The rule of an argument of this kind and name.
abbrev pub kind_rule : Choices → Kind → Text → Rule
kind_rule choices Wanted name = wanted_argument name
kind_rule choices Free name = optional_argument name
kind_rule choices Valued name = valued_option name
kind_rule choices Address name = valued_option name
kind_rule choices Permissions name = valued_option name
kind_rule choices Flag name = flag_option name
kind_rule choices Slots name = record (valued_option name) { parser = Some (Signed (pos 1) (pos 65536)) }
kind_rule choices Align name = choice_option name choices.aligns
kind_rule choices Format name = choice_option name choices.formats
kind_rule choices Order name = choice_option name choices.orders
kind_rule choices Summary name = choice_option name choices.summaries

-- The rule of a row.
abbrev pub argument_of : Choices → Row → Rule
argument_of choices row = kind_rule choices row.kind row.name.now

-- The command of a row: one with the arguments of its rows added.
abbrev pub command_of : Choices → CommandRow → App
command_of choices row = fold (λ a it. with_rule a (argument_of choices it)) (new_app row.name.now) row.rows.now

-- A program with the commands of rows added.
abbrev pub with_commands : Choices → App → List CommandRow → App
with_commands choices program rows = fold (λ a row. with_subcommand a (command_of choices row).top) program rows
