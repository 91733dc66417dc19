-- The rows of the table that a line passes.
use Rattle.std.proofs.Common.{◌≡◌, ◌≢◌, ℕ, ◌++◌, Bool, true, false, List, [], ◌∷◌, Result, Err, refl, sym, ◌∙◌, ap, if◌then◌else◌}
use Rattle.std.proofs.lemmas.List.Splits.{join_with_byte-slice_split}
use Rattle.std.proofs.lemmas.Slice.Eq.{bytes_eq-Decides}
use Rattle.std.specs.List.{AllByRecursion, join_with_byte}
use Rattle.std.specs.Str.{bytes_eq}
use Rattle.cc_word.specs.declared.refusal.Refusal.{Refusal}
use Rattle.cc_word.specs.declared.refusal.Refusal.TheVariants.{Syntax}
use Rattle.cc_values.specs.Values.{words_of}
use Rattle.cc_values.specs.declared.op.Op.{Op}
use Rattle.cc_syntax.specs.Commands.{Command, command_by, command_in, commands, operation_in}

-- the operation of a line of any length by these rows of the table, or its error
abbrev pub named : (rows : List Command) (line : List ℕ) → Result Op Refusal
named rows line = command_by rows (words_of line)

-- The whole table.
pub by_table : (line : List ℕ) → command_in (words_of line) ≡ named commands line
by_table line = by (words_of line) where
  by : (words : List (List ℕ)) → command_in words ≡ command_by commands words
  by [] = refl
  by (word ∷ values) = refl

-- the line is its words again
joined : (line : List ℕ) (words : List (List ℕ)) → words_of line ≡ words → line ≡ join_with_byte 32 words
joined line words whole = sym (join_with_byte-slice_split 32 line) ∙ ap (join_with_byte 32) whole

-- the line has not this command's name as its first word, or else values for which the rows have the same
abbrev pub Misses : (line : List ℕ) (rows : List Command) → Command → Type 0
Misses line rows row = (values : List (List ℕ)) → words_of line ≡ row.name ∷ values → row.operation values ≡ operation_in rows row.name values

pub misses_name : (line : List ℕ) (rows : List Command) (row : Command) → ((rest : List ℕ) → line ≢ row.name ++ 32 ∷ rest)
    → row.operation [] ≡ operation_in rows row.name [] → Misses line rows row
misses_name line rows row none empty [] whole = empty
misses_name line rows row none empty (value ∷ values) whole =
    absurd (none (join_with_byte 32 (value ∷ values)) (joined line (row.name ∷ value ∷ values) whole))

pub misses_alone : (line : List ℕ) (rows : List Command) (row : Command) → line ≢ row.name
    → ((value : List ℕ) (values : List (List ℕ)) → row.operation (value ∷ values) ≡ operation_in rows row.name (value ∷ values)) → Misses line rows row
misses_alone line rows row none more [] whole = absurd (none (joined line (row.name ∷ []) whole))
misses_alone line rows row none more (value ∷ values) whole = more value values

operation_passed : (first rows : List Command) (line word : List ℕ) (words : List (List ℕ)) → words_of line ≡ word ∷ words
    → AllByRecursion (Misses line rows) first → operation_in (first ++ rows) word words ≡ operation_in rows word words
operation_passed [] rows line word words whole all = refl
operation_passed (row ∷ first) rows line word words whole all =
    by (bytes_eq word row.name) refl (operation_passed first rows line word words whole all.1)
  where
    by : (same : Bool) → bytes_eq word row.name ≡ same → operation_in (first ++ rows) word words ≡ operation_in rows word words
        → (if same then row.operation words else operation_in (first ++ rows) word words) ≡ operation_in rows word words
    by true is later =
        let is_name : word ≡ row.name = (bytes_eq-Decides word row.name).0 is in
        all.0 words (whole ∙ ap (λ (name : List ℕ). name ∷ words) is_name) ∙ ap (λ (name : List ℕ). operation_in rows name words) (sym is_name)
    by false is later = later

-- A line that misses the first rows has its operation by the others.
pub passed : (first rows : List Command) (line : List ℕ) → AllByRecursion (Misses line rows) first → named (first ++ rows) line ≡ named rows line
passed first rows line all = by (words_of line) refl where
  by : (words : List (List ℕ)) → words_of line ≡ words → command_by (first ++ rows) words ≡ command_by rows words
  by [] is = refl
  by (word ∷ words) is = operation_passed first rows line word words is all

-- No row is left.
pub no_command : (line : List ℕ) → named [] line ≡ Err Syntax
no_command line = by (words_of line) where
  by : (words : List (List ℕ)) → command_by [] words ≡ Err Syntax
  by [] = refl
  by (word ∷ words) = refl
