-- The addresses of the entries of an input, and their column.
use Rattle.std.specs.Prelude.{ℕ, zero, suc, ◌+◌, ◌%◌, ◌^◌, List, [], ◌++◌, Option, None, Some, codes, option_map, is_some, if◌then◌else◌}
use Rattle.cc_word.specs.WordText.{hexadecimal}
use Rattle.cc_decode.specs.Row.{header_text, member_text, padded, quoted}
use Rattle.cc_io.specs.declared.format.Format.{Format}
use Rattle.cc_io.specs.declared.format.Format.TheVariants.{Columns, Csv, Fixed, Json, Text}
use Rattle.cc_decode.specs.declared.options.Options.{Options}
use Rattle.cc_decode.specs.Tags.{after_tag}

-- The address of the next word. After the last word of memory it is 0.
abbrev pub next_address : ℕ → ℕ
next_address address = (address + 16) % 2 ^ 64

-- The options for the rest of an input after its first entry.
abbrev pub after_entry : Options → Options
after_entry options = record options { at = option_map next_address options.at; tags = option_map after_tag options.tags }

-- The options for the rest of an input after its first `count` entries.
abbrev pub options_after : Options → (count : ℕ) → Options
options_after options zero = options
options_after options (suc count) = options_after (after_entry options) count

-- The column of the address, with the separator after it.
abbrev pub place_of : Format → (address : ℕ) → List ℕ
place_of Columns address = hexadecimal address ++ codes " "
place_of Text address = hexadecimal address ++ codes ": "
place_of Fixed address = padded address ++ codes " "
place_of Csv address = hexadecimal address ++ codes ","
place_of Json address = member_text (codes "at") (quoted (hexadecimal address)) ++ codes ","

-- The start of a line: the brace that opens an object, and otherwise nothing.
abbrev pub opening_text : Format → List ℕ
opening_text Columns = []
opening_text Text = []
opening_text Fixed = []
opening_text Csv = []
opening_text Json = codes "{"

-- The bytes of a line before the row: its start, and the column of the address, if there is one.
abbrev pub place_text : Format → (at : Option ℕ) → List ℕ
place_text format None = opening_text format
place_text format (Some address) = opening_text format ++ place_of format address

-- The name of the column of the address in the header of a format.
abbrev pub place_name : Format → List ℕ
place_name Columns = []
place_name Text = []
place_name Fixed = []
place_name Csv = codes "at,"
place_name Json = []

-- The header of a listing: the header of the format, after the name of the column of the address.
abbrev pub header_of : Options → List ℕ
header_of options = (if is_some options.at then place_name options.format else []) ++ header_text options.format
