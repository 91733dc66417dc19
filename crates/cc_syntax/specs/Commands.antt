-- The operation of every line, or its error: the table of commands.
use Rattle.std.specs.Prelude.{◌≡◌, ℕ, List, [], ◌∷◌, length, codes, nat_lt, if◌then◌else◌, Some, Result, Ok, Err}
use Rattle.std.specs.Str.{bytes_eq}
use Rattle.cc_word.specs.declared.refusal.Refusal.{Refusal}
use Rattle.cc_word.specs.declared.refusal.Refusal.TheVariants.{Syntax, TooLong}
use Rattle.cc_bounds.specs.declared.align.Align.{Align}
use Rattle.cc_bounds.specs.declared.align.Align.TheVariants.{One, Sixteen}
use Rattle.cc_values.specs.Numbers.{number_of}
use Rattle.cc_values.specs.Values.{address_in, both, flag_in, index_in, length_in, permissions_in, single, word_in, words_of}
use Rattle.cc_values.specs.declared.op.Op.{Op}
use Rattle.cc_values.specs.declared.op.Op.TheVariants as op

-- The alignment: `1` or `16`.
abbrev pub align_in : (text : List ℕ) → Result Align Refusal
align_in text =
    if bytes_eq text (codes "1") then Ok One else if bytes_eq text (codes "16") then Ok Sixteen else Err Syntax

-- `BeginsWithSlot` holds if the string is a word, a space and `rest`, and `slot` is the number of a
-- slot that the word parses as, or its error. No public clause cites it.
pub record BeginsWithSlot (text : List ℕ) (slot : Result ℕ Refusal) (rest : List ℕ) : Type 0 where
  pub word : List ℕ
  pub whole : words_of text ≡ word ∷ words_of rest
  pub slot_is : slot ≡ index_in word

-- `BeginsWithNumber` holds if the string is a word that parses as the number, a space and `rest`. No
-- public clause cites it.
pub record BeginsWithNumber (text : List ℕ) (number : ℕ) (rest : List ℕ) : Type 0 where
  pub word : List ℕ
  pub whole : words_of text ≡ word ∷ words_of rest
  pub spelled : number_of word ≡ Some number

-- The number of a slot and one value after a name, or the error.
abbrev pub slot_and : {A : Type 0} → (value_in : List ℕ → Result A Refusal) → (values : List (List ℕ)) → Result (ℕ × A) Refusal
slot_and value_in (slot ∷ value ∷ []) = both (index_in slot) (value_in value)
slot_and value_in _ = Err Syntax

-- The number of a slot and one value after a name, which is `usual` if it is omitted, or the error.
abbrev pub slot_and_perhaps : {A : Type 0} → (usual : A) → (value_in : List ℕ → Result A Refusal) → (values : List (List ℕ)) → Result (ℕ × A) Refusal
slot_and_perhaps usual value_in [] = Err Syntax
slot_and_perhaps usual value_in (slot ∷ []) = both (index_in slot) (Ok usual)
slot_and_perhaps usual value_in (slot ∷ value ∷ values) = slot_and value_in (slot ∷ value ∷ values)

-- The operation with a value, or the error.
abbrev pub one : {A : Type 0} → (make : A → Op) → Result A Refusal → Result Op Refusal
one make (Ok value) = Ok (make value)
one make (Err fault) = Err fault

-- The operation with two values, or the error.
abbrev pub two : {A B : Type 0} → (make : A → B → Op) → Result (A × B) Refusal → Result Op Refusal
two make values = one (λ parts. make parts.0 parts.1) values

-- A command: its name, and the operation or the error of each list of values after the name.
pub record Command : Type 0 where
  pub name : List ℕ
  pub operation : (values : List (List ℕ)) → Result Op Refusal

-- A command without values.
abbrev pub alone : (name : List ℕ) → (op : Op) → Command
alone name op = record { name = name; operation = without op } where
  without : Op → (values : List (List ℕ)) → Result Op Refusal
  without op [] = Ok op
  without op (value ∷ values) = Err Syntax

-- A command of one value.
abbrev pub of_value : {A : Type 0} → (name : List ℕ) → (make : A → Op) → (value_in : List ℕ → Result A Refusal) → Command
of_value name make value_in = record { name = name; operation = λ values. one make (single value_in values) }

-- A command of a slot and a value.
abbrev pub of_slot : {A : Type 0} → (name : List ℕ) → (make : ℕ → A → Op) → (value_in : List ℕ → Result A Refusal) → Command
of_slot name make value_in = record { name = name; operation = λ values. two make (slot_and value_in values) }

-- A command of a slot and a value that may be omitted.
abbrev pub of_slot_perhaps : {A : Type 0} → (name : List ℕ) → (make : ℕ → A → Op) → (usual : A) → (value_in : List ℕ → Result A Refusal) → Command
of_slot_perhaps name make usual value_in =
    record { name = name; operation = λ values. two make (slot_and_perhaps usual value_in values) }

-- The table of commands.
abbrev pub commands : List Command
commands =
    of_value (codes "show") op.Show index_in
    ∷ of_value (codes "round") op.Round length_in
    ∷ of_value (codes "alloc") op.Alloc length_in
    ∷ of_value (codes "free") op.Free index_in
    ∷ of_slot (codes "inc") op.Inc address_in
    ∷ of_slot (codes "addr") op.Addr address_in
    ∷ of_slot (codes "bounds") op.Bounds length_in
    ∷ of_slot (codes "exact") op.Exact length_in
    ∷ of_slot (codes "perms") op.Perms permissions_in
    ∷ of_slot (codes "flag") op.Flag flag_in
    ∷ of_slot (codes "seal") op.Seal index_in
    ∷ of_slot (codes "unseal") op.Unseal index_in
    ∷ of_slot (codes "rebuild") op.Rebuild word_in
    ∷ of_slot_perhaps (codes "pool") op.Pool One align_in
    ∷ alone (codes "sweep") op.Sweep
    ∷ []

-- The operation of the first command of this name, or `Syntax` if there is no such command.
abbrev pub operation_in : (rows : List Command) → (name : List ℕ) → (values : List (List ℕ)) → Result Op Refusal
operation_in [] name values = Err Syntax
operation_in (row ∷ rows) name values =
    if bytes_eq name row.name then row.operation values else operation_in rows name values

-- The operation of these words, of which the first is a command's name, or the error.
abbrev pub command_in : (words : List (List ℕ)) → Result Op Refusal
command_in [] = Err Syntax
command_in (name ∷ values) = operation_in commands name values

-- The operation of these words, of which the first is the name of a command of these rows, or the
-- error. No public clause cites it.
abbrev pub command_by : (rows : List Command) → (words : List (List ℕ)) → Result Op Refusal
command_by rows [] = Err Syntax
command_by rows (name ∷ values) = operation_in rows name values

-- The operation of a line, or its error. For more than 128 bytes the error is `TooLong`, whatever
-- the line contains.
unfoldable pub operation_of : (line : List ℕ) → Result Op Refusal
operation_of line = if nat_lt 128 (length line) then Err TooLong else command_in (words_of line)
