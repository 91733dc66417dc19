-- The permissions of a word by name.
use Rattle.std.specs.Prelude.{ℕ, ◌+◌, ◌==◌, if◌then◌else◌, List, ◌++◌, codes, length, map, filter, sum_by}
use Rattle.std.specs.Int.RustNames.{bit_and}
use Rattle.std.specs.List.{join_by, join_with_byte}
use Rattle.bitflags.specs.Sets.{Row}
use Rattle.bitflags.specs.declared.traits.Flag.{Flag}
use Rattle.cc_word.specs.Permissions.{bits_of, permission_table}
use Rattle.cc_word.specs.declared.perms.Perms.{Perms}

-- The names in those rows of a table of permissions whose bits are all set.
abbrev pub names_of_set : (bits : ℕ) (table : List Row) → List (List ℕ)
names_of_set bits table = map (λ row. row.0) (filter (λ row. bit_and bits row.1 == row.1) table)

-- The names of the set permissions from bit 0 up, joined by `+`, or `-` if none is set.
unfoldable pub permissions_text : ℕ → List ℕ
permissions_text bits = if bits == 0 then codes "-" else join_with_byte 43 (names_of_set bits permission_table)

-- A name between two quotation marks of this text.
abbrev pub in_quotes : (quote name : List ℕ) → List ℕ
in_quotes quote name = quote ++ name ++ quote

-- The names of the set permissions from bit 0 up, as an array of JSON.
unfoldable pub permissions_array : ℕ → List ℕ
permissions_array bits = codes "[" ++ join_by (in_quotes (codes "\"")) (codes ",") (names_of_set bits permission_table) ++ codes "]"

-- ---- definitions that only private contracts cite

-- The rows of a list of flags.
abbrev pub rows_of : List (Flag Perms) → List Row
rows_of flags = map (λ flag. (flag.name.now, bits_of flag.value)) flags

-- The number of bytes that the names in the rows take, each with `more` bytes: its quotation marks and a separator.
abbrev pub names_length : (more : ℕ) → List Row → ℕ
names_length more table = sum_by (λ row. length row.0 + more) table
