-- The words of a line, and the value that a word parses as, or its error.
use Rattle.std.specs.Prelude.{◌≡◌, ◌≢◌, ◌<◌, ℕ, Bool, true, false, ◌&&◌, ◌-◌, ◌^◌, ◌==◌, List, [], ◌∷◌, length, codes, if◌then◌else◌, Option, Some, option_map, option_and_then, Result, Ok, Err}
use Rattle.std.specs.Int.RustNames.{bit_or}
use Rattle.std.specs.List.{AllByRecursion, join_with_byte, list_all, slice_split}
use Rattle.std.specs.Option.{ok_or}
use Rattle.std.specs.Str.{bytes_eq}
use Rattle.bitflags.specs.Sets.{find_name}
use Rattle.hex.specs.Hex.{is_hex_digit}
use Rattle.std.specs.Str.Parse.{digits_value}
use Rattle.cc_word.specs.declared.refusal.Refusal.{Refusal}
use Rattle.cc_word.specs.declared.refusal.Refusal.TheVariants.{Syntax}
use Rattle.cc_word.specs.Permissions.{permission_table}
use Rattle.cc_word.specs.declared.perms.Perms.{Perms}
use Rattle.cc_values.specs.Numbers.{number_of, within_limit}

-- `IsWord` holds if the string has no space.
abbrev pub IsWord : List ℕ → Type 0
IsWord text = AllByRecursion (λ byte. byte ≢ 32) text

-- `IsJoined` holds if the line is these words with one space between each two, and has no other
-- space.
pub record IsJoined (line : List ℕ) (words : List (List ℕ)) : Type 0 where
  pub whole : line ≡ join_with_byte 32 words
  pub some : 0 < length words
  pub each : AllByRecursion IsWord words

-- The words of a line: the parts between its spaces.
abbrev pub words_of : (line : List ℕ) → List (List ℕ)
words_of line = slice_split (λ byte. byte == 32) line

-- `OneJoin` holds if `words_of` is the only list of words of which the line is joined.
pub record OneJoin (line : List ℕ) : Type 0 where
  pub joined : IsJoined line (words_of line)
  pub only : (words : List (List ℕ)) → IsJoined line words → words ≡ words_of line

-- The number of a slot or of an object: at most 2^32 - 1.
abbrev pub index_in : (text : List ℕ) → Result ℕ Refusal
index_in text = within_limit (2 ^ 32 - 1) (number_of text)

-- The address or the increment: at most 2^64 - 1.
abbrev pub address_in : (text : List ℕ) → Result ℕ Refusal
address_in text = within_limit (2 ^ 64 - 1) (number_of text)

-- The length: at most 2^64.
abbrev pub length_in : (text : List ℕ) → Result ℕ Refusal
length_in text = within_limit (2 ^ 64) (number_of text)

-- The flag: `0` or `1`.
abbrev pub flag_in : (text : List ℕ) → Result Bool Refusal
flag_in text =
    if bytes_eq text (codes "0") then Ok false else if bytes_eq text (codes "1") then Ok true else Err Syntax

-- The word of a capability: 32 hexadecimal digits of either case.
abbrev pub word_in : (text : List ℕ) → Result ℕ Refusal
word_in text = if length text == 32 && list_all is_hex_digit text then Ok (digits_value 16 text) else Err Syntax

-- The bits of a set and those of the permissions of these names, or `None` if a name is unknown.
abbrev pub with_names : (bits : ℕ) (names : List (List ℕ)) → Option ℕ
with_names bits [] = Some bits
with_names bits (name ∷ names) =
    option_and_then (λ named. with_names (bit_or bits named) names) (find_name permission_table name)

-- The set of permissions: names joined by `+`, or `-` for none.
abbrev pub permissions_in : (text : List ℕ) → Result Perms Refusal
permissions_in text =
    if bytes_eq text (codes "-") then Ok (record { 0 = 0 })
    else ok_or (option_map (λ bits. record { 0 = bits }) (with_names 0 (slice_split (λ byte. byte == 43) text))) Syntax

-- Both values, or the first error: `Syntax` comes before `OutOfRange`.
abbrev pub both : {A B : Type 0} → Result A Refusal → Result B Refusal → Result (A × B) Refusal
both (Ok first) (Ok second) = Ok (first, second)
both (Ok first) (Err fault) = Err fault
both (Err Syntax) second = Err Syntax
both (Err fault) (Ok second) = Err fault
both (Err fault) (Err other) = Err other

-- The one value after a name, or the error.
abbrev pub single : {A : Type 0} → (value_in : List ℕ → Result A Refusal) → (values : List (List ℕ)) → Result A Refusal
single value_in (value ∷ []) = value_in value
single value_in _ = Err Syntax
