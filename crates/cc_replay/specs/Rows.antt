-- The rows of a summary or of a series: names and values, and their text in each format.
use Rattle.std.specs.Prelude.{ℕ, zero, suc, ◌*◌, ◌/◌, ◌%◌, ◌^◌, ◌==◌, List, [], ◌∷◌, ◌++◌, codes, decimal, map, min, if◌then◌else◌}
use Rattle.cc_io.specs.Text.{with_line_feed}
use Rattle.cc_replay.specs.declared.reading.SampleReason.{SampleReason}
use Rattle.cc_replay.specs.declared.reading.SampleReason.TheVariants.{Regular, Swept, Last}
use Rattle.cc_replay.specs.declared.table.Part.{Part}
use Rattle.cc_replay.specs.declared.table.Part.TheVariants.{Line, Name, Quantity, Member, Heading, Cell}
use Rattle.cc_replay.specs.declared.table.Row.{Row as RowValue}
use Rattle.cc_replay.specs.declared.table.Value.{Value}
use Rattle.cc_replay.specs.declared.table.Value.TheVariants.{Number, Percent, Reason, Sweeping}
use Rattle.cc_replay.specs.PolicyText.{policy_text}
use Rattle.cc_replay.specs.declared.table.Format.{Format}
use Rattle.cc_replay.specs.declared.table.Format.TheVariants.{Text, Csv, Json}

-- Ten-thousandths in decimal, with four digits after the point.
unfoldable pub percent_text : (parts : ℕ) → List ℕ
percent_text parts =
    decimal (parts / 10000) ++ codes "." ++ decimal (parts / 1000 % 10) ++ decimal (parts / 100 % 10)
    ++ decimal (parts / 10 % 10) ++ decimal (parts % 10)

-- The word for the reason of a sample.
abbrev pub reason_text : SampleReason → List ℕ
reason_text Regular = codes "each"
reason_text Swept = codes "sweep"
reason_text Last = codes "end"

-- The text of a value.
unfoldable pub value_text : Value → List ℕ
value_text (Number number) = decimal number
value_text (Percent parts) = percent_text parts
value_text (Reason reason) = reason_text reason
value_text (Sweeping policy) = policy_text policy

-- The text of a value in JSON: that of a word has quotation marks.
unfoldable pub member_text : Value → List ℕ
member_text (Number number) = decimal number
member_text (Percent parts) = percent_text parts
member_text (Reason reason) = codes "\"" ++ reason_text reason ++ codes "\""
member_text (Sweeping policy) = codes "\"" ++ policy_text policy ++ codes "\""

-- The part in ten-thousandths of a percent of the whole, rounded down, or 0 if the whole is 0. A
-- part above 2^100 is treated as 2^100.
abbrev pub parts_of : (part whole : ℕ) → ℕ
parts_of part zero = 0
parts_of part (suc less) = min part (2 ^ 100) * 1000000 / suc less

-- A row: a name, and its value.
pub record Row : Type 0 where
  pub name : List ℕ
  pub value : Value

-- The rows of a table.
abbrev pub table_rows : List RowValue → List Row
table_rows rows = map (λ row. record { name = row.name.now; value = row.value }) rows

-- A byte of a name in a key of JSON: an underscore for a dot, since a dot selects a member in the languages that read JSON.
abbrev pub key_byte : (byte : ℕ) → ℕ
key_byte byte = if byte == 46 then 95 else byte

-- The key of a name in JSON.
abbrev pub json_key : (name : List ℕ) → List ℕ
json_key name = map key_byte name

-- The text of a row in a part of an output.
unfoldable pub item_text : Part → Row → List ℕ
item_text Line row = with_line_feed (row.name ++ codes " " ++ value_text row.value)
item_text Name row = row.name
item_text Quantity row = value_text row.value
item_text Heading row = row.name
item_text Cell row = value_text row.value
item_text Member row = codes "\"" ++ json_key row.name ++ codes "\": " ++ member_text row.value

-- The bytes between two rows.
abbrev pub separator_of : Part → List ℕ
separator_of Line = []
separator_of Name = codes ","
separator_of Quantity = codes ","
separator_of Member = codes ", "
separator_of Heading = codes " "
separator_of Cell = codes " "

-- The rows after another, each with a separator before it.
abbrev pub more_items : Part → List Row → List ℕ
more_items part [] = []
more_items part (row ∷ rows) = separator_of part ++ item_text part row ++ more_items part rows

-- The rows, with the separator between.
abbrev pub items_text : Part → List Row → List ℕ
items_text part [] = []
items_text part (row ∷ rows) = item_text part row ++ more_items part rows

-- The names of the rows on one line, with commas between.
unfoldable pub names_line : List Row → List ℕ
names_line rows = with_line_feed (items_text Name rows)

-- The values of the rows on one line, with commas between.
unfoldable pub values_line : List Row → List ℕ
values_line rows = with_line_feed (items_text Quantity rows)

-- The table in a format: a line for each row; or a line of the names and one of the values, with
-- commas between; or one object of JSON.
abbrev pub table_text : Format → List Row → List ℕ
table_text Text rows = items_text Line rows
table_text Csv rows = names_line rows ++ values_line rows
table_text Json rows = codes "{" ++ items_text Member rows ++ codes "}\n"

-- ---- Tables of several rows.

-- The values of a row of such a table.
abbrev pub row_text : Format → List Row → List ℕ
row_text Text row = with_line_feed (items_text Cell row)
row_text Csv row = values_line row
row_text Json row = codes "{" ++ items_text Member row ++ codes "}"

-- The first line: the names of the columns, or the start of a list of JSON.
abbrev pub table_heading : Format → List Row → List ℕ
table_heading Text row = with_line_feed (items_text Heading row)
table_heading Csv row = names_line row
table_heading Json row = codes "["

-- The end.
abbrev pub table_end : Format → List ℕ
table_end Json = codes "]\n"
table_end _ = []

-- The bytes between two rows.
abbrev pub between_rows : Format → List ℕ
between_rows Text = []
between_rows Csv = []
between_rows Json = codes ",\n"
