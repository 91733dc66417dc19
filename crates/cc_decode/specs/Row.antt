-- The reply to one word, on one line.
use Rattle.std.specs.Prelude.{ℕ, List, [], ◌∷◌, ◌++◌, codes, decimal, Bool, true, if◌then◌else◌}
use Rattle.std.specs.List.{join_with_byte}
use Rattle.cc_word.specs.Word.{bit_of}
use Rattle.cc_word.specs.WordText.{digits_of, hexadecimal}
use Rattle.cc_word.specs.declared.fields.Fields.{Fields}
use Rattle.cc_bounds.specs.declared.span.Span.{Span}
use Rattle.cc_bounds.specs.Decoding.{stored_exponent}
use Rattle.cc_cap.specs.LineText.{IsWordLine}
use Rattle.cc_io.specs.Text.{with_line_feed}
use Rattle.cc_cap.specs.WordTelling.{TellsWord}
use Rattle.cc_io.specs.Permissions.{permissions_array, permissions_text}
use Rattle.cc_io.specs.declared.format.Format.{Format}
use Rattle.cc_io.specs.declared.format.Format.TheVariants.{Columns, Csv, Fixed, Json, Text}

-- The word, base, top, permissions, flag, type and exponent, and whether the word is canonical,
-- with the separator between.
abbrev pub values_text : (separator : List ℕ) (word : ℕ) (fields : Fields) (bounds : Span) (canonical : Bool) → List ℕ
values_text separator word fields bounds canonical =
    digits_of 32 word ++ separator ++ hexadecimal bounds.base ++ separator ++ hexadecimal bounds.top
    ++ separator ++ digits_of 4 fields.perms ++ separator ++ decimal (bit_of fields.flag) ++ separator ++ digits_of 5 fields.otype
    ++ separator ++ decimal (stored_exponent fields) ++ separator ++ (if canonical then codes "yes" else codes "no")

-- The values with one space between.
abbrev pub columns_text : (word : ℕ) (fields : Fields) (bounds : Span) (canonical : Bool) → List ℕ
columns_text = values_text (codes " ")

-- The values, the address and the names of the permissions, with commas between.
abbrev pub csv_text : (word : ℕ) (fields : Fields) (bounds : Span) (canonical : Bool) → List ℕ
csv_text word fields bounds canonical =
    values_text (codes ",") word fields bounds canonical
    ++ codes "," ++ hexadecimal fields.address ++ codes "," ++ permissions_text fields.perms

-- `0x` and 17 hexadecimal digits, which every top of bounds has.
abbrev pub padded : ℕ → List ℕ
padded number = codes "0x" ++ digits_of 17 number

-- The values of the columns with one space between, in one width each: base and top as 17 digits,
-- the exponent as two hexadecimal digits, and 1 for a canonical word.
abbrev pub fixed_text : (word : ℕ) (fields : Fields) (bounds : Span) (canonical : Bool) → List ℕ
fixed_text word fields bounds canonical =
    digits_of 32 word ++ codes " " ++ padded bounds.base ++ codes " " ++ padded bounds.top
    ++ codes " " ++ digits_of 4 fields.perms ++ codes " " ++ decimal (bit_of fields.flag) ++ codes " " ++ digits_of 5 fields.otype
    ++ codes " " ++ digits_of 2 (stored_exponent fields) ++ codes " " ++ decimal (bit_of canonical)

-- A text between two quotation marks.
abbrev pub quoted : List ℕ → List ℕ
quoted text = codes "\"" ++ text ++ codes "\""

-- A member of an object of JSON: its name in quotation marks, a colon and its value.
abbrev pub member_text : (name value : List ℕ) → List ℕ
member_text name value = quoted name ++ codes ":" ++ value

-- The members of a word and its rights.
abbrev pub json_rights : (word : ℕ) (fields : Fields) → List (List ℕ)
json_rights word fields =
    member_text (codes "word") (quoted (digits_of 32 word))
    ∷ member_text (codes "perms") (quoted (digits_of 4 fields.perms))
    ∷ member_text (codes "names") (permissions_array fields.perms)
    ∷ member_text (codes "reserved") (decimal fields.reserved)
    ∷ member_text (codes "flag") (decimal (bit_of fields.flag))
    ∷ member_text (codes "type") (quoted (digits_of 5 fields.otype))
    ∷ []

-- The members of its address, exponent and bounds. The address and the bounds are strings, since many
-- readers of JSON round numbers from 2^53 up.
abbrev pub json_bounds : (fields : Fields) (bounds : Span) → List (List ℕ)
json_bounds fields bounds =
    member_text (codes "address") (quoted (hexadecimal fields.address))
    ∷ member_text (codes "exponent") (decimal (stored_exponent fields))
    ∷ member_text (codes "base") (quoted (hexadecimal bounds.base))
    ∷ member_text (codes "top") (quoted (hexadecimal bounds.top))
    ∷ []

-- The member that says whether it is canonical.
abbrev pub json_canonical : Bool → List ℕ
json_canonical canonical = member_text (codes "canonical") (if canonical then codes "true" else codes "false")

-- All members with commas between, and the brace that closes the object. The one that opens it is
-- before the address of the line.
abbrev pub json_text : (word : ℕ) (fields : Fields) (bounds : Span) (canonical : Bool) → List ℕ
json_text word fields bounds canonical =
    join_with_byte 44 (json_rights word fields ++ json_bounds fields bounds ++ json_canonical canonical ∷ []) ++ codes "}"

-- IsWordRow holds if `row` is the reply to the word: its columns, the line of a tagged word, its
-- columns in one width each, its comma-separated values, or the members of its object.
abbrev pub IsWordRow : Format → (word : ℕ) (row : List ℕ) → Type 0
IsWordRow Columns word row = TellsWord columns_text word row
IsWordRow Text word row = IsWordLine word true row
IsWordRow Fixed word row = TellsWord fixed_text word row
IsWordRow Csv word row = TellsWord csv_text word row
IsWordRow Json word row = TellsWord json_text word row

-- The header of a format: the names of the columns for comma-separated values, and otherwise
-- nothing.
abbrev pub header_text : Format → List ℕ
header_text Columns = []
header_text Text = []
header_text Fixed = []
header_text Json = []
header_text Csv = with_line_feed (codes "word,base,top,perms,flag,type,exponent,canonical,address,names")
