-- The explanation of a word, and the output of `explain` for a string.
use Rattle.std.specs.Prelude.{◌≡◌, ℕ, Bool, ◌+◌, ◌-◌, ◌*◌, ◌/◌, ◌%◌, ◌^◌, List, ◌++◌, Option, None, Some, MatchOption, codes, nat_le, if◌then◌else◌}
use Rattle.cc_word.specs.Word.{word_of, bit_of}
use Rattle.cc_word.specs.declared.fields.Fields.{Fields}
use Rattle.cc_bounds.specs.declared.span.Span.{Span}
use Rattle.cc_bounds.specs.Decoding.{DecodesTo, raised}
use Rattle.cc_bounds.specs.Span.{span_from}
use Rattle.cc_bounds.specs.Window.{section_of}
use Rattle.cc_bounds.specs.Encoding.{ie_of, t_of, b_of}
use Rattle.cc_cap.specs.Canonical.{IsCanonical}
use Rattle.cc_cap.specs.Defect.{HasDefect}
use Rattle.cc_cap.specs.declared.canonical.Defect.{Defect}
use Rattle.cc_cap.specs.declared.canonical.Defect.TheVariants.{ReservedBits, ReservedType, TopBelowBase, TopPastEnd, OtherFields}
use Rattle.cc_io.specs.Text.{with_line_feed}
use Rattle.cc_io.specs.Numbered.{line_feed, line_with_decimal, line_with_hexadecimal, with_decimal, with_digits, with_hexadecimal}
use Rattle.cc_io.specs.CommandOutput.{AnswersTyped}
use Rattle.cc_explain.specs.Picture.{IsPictureRow}
use Rattle.cc_explain.specs.Steps.{AreSteps, address_section, carries, implied_bits, is_high, upper_bits}
use Rattle.cc_explain.specs.declared.picture.Rows.{Rows}
use Rattle.cc_explain.specs.declared.steps.Steps.{Steps}

-- ---- the fields

-- The given bytes, and then the values of IE and of the T and B fields.
abbrev pub bounds_fields_text : (before : List ℕ) (ie t b : ℕ) → List ℕ
bounds_fields_text before ie t b =
    with_decimal before ie ++ with_digits (codes ", T field 0x") 3 t ++ with_digits (codes ", B field 0x") 4 b

-- The line of the word.
abbrev pub word_text : ℕ → List ℕ
word_text word = with_digits (codes "word      ") 32 word ++ line_feed

-- The line of the fields that the bounds do not depend on.
abbrev pub rights_text : Fields → List ℕ
rights_text fields =
    with_digits (codes "fields    permissions ") 4 fields.perms ++ with_decimal (codes ", reserved ") fields.reserved
    ++ with_decimal (codes ", flag ") (bit_of fields.flag) ++ with_digits (codes ", type ") 5 fields.otype ++ line_feed

-- The line of the fields that the bounds are decoded from.
abbrev pub bounds_line_text : Fields → List ℕ
bounds_line_text fields =
    bounds_fields_text (codes "          IE ") (bit_of fields.ie) fields.t fields.b
    ++ with_hexadecimal (codes ", address ") fields.address ++ line_feed

-- The lines of the word and of its fields.
abbrev pub fields_text : (word : ℕ) → Fields → List ℕ
fields_text word fields = word_text word ++ rights_text fields ++ bounds_line_text fields

-- ---- the exponent and the mantissas

-- The line of the exponent, and with IE of the two octal digits that store it.
abbrev pub exponent_text : Fields → Steps → List ℕ
exponent_text fields steps =
    if fields.ie then
    with_decimal (codes "exponent  E = ") steps.exponent ++ with_decimal (codes ": 8 * ") (fields.t % 8)
    ++ line_with_decimal (codes " + ") (fields.b % 8) (codes ", from the low 3 bits of the T field and of the B field; at most 52")
    else with_line_feed (codes "exponent  E = 0, as IE is 0")

-- The line of the granule, of which the ends of bounds of this exponent are multiples.
abbrev pub granule_text : Fields → Steps → List ℕ
granule_text fields steps =
    if fields.ie then line_with_hexadecimal (codes "granule   ") (8 * 2 ^ steps.exponent) (codes " bytes, 2^(E+3)")
    else with_line_feed (codes "granule   1 byte")

-- The phrase for the part of its mantissa that the T or the B field is.
abbrev pub stored_text : Fields → List ℕ
stored_text fields = if fields.ie then codes " field with its low 3 bits as 0" else codes " field"

-- The line of the base mantissa B.
abbrev pub base_mantissa_text : Fields → Steps → List ℕ
base_mantissa_text fields steps =
    with_hexadecimal (codes "B         ") steps.b ++ codes ", the B" ++ stored_text fields ++ line_feed

-- The line of the top mantissa T, and of its two implied bits, which no field stores.
abbrev pub top_mantissa_text : Fields → Steps → List ℕ
top_mantissa_text fields steps =
    with_hexadecimal (codes "T         ") steps.t ++ codes ", the T" ++ stored_text fields
    ++ line_with_decimal (codes ", and above it ") (steps.t / 2 ^ 12) (codes " as the 2 implied bits")

-- The sign between two numbers, of which the first is below the second or is not.
abbrev pub comparison_text : (is_below : Bool) → List ℕ
comparison_text is_below = if is_below then codes " < " else codes " >= "

-- The line of the carry into the implied bits, and of the two numbers that it compares.
abbrev pub carry_text : Steps → List ℕ
carry_text steps =
    with_decimal (codes "carry     ") (bit_of (carries steps)) ++ with_hexadecimal (codes ", as ") (steps.t % 2 ^ 12)
    ++ line_with_hexadecimal (comparison_text (carries steps)) (steps.b % 2 ^ 12) (codes ", the low 12 bits of T and of B")

-- The line of the two implied bits, as the sum that they are.
abbrev pub implied_text : Fields → Steps → List ℕ
implied_text fields steps =
    with_decimal (codes "implied   ") (implied_bits fields steps) ++ with_decimal (codes ", as ") (steps.b / 2 ^ 12)
    ++ with_decimal (codes " + ") (bit_of (carries steps))
    ++ line_with_decimal (codes " + ") (bit_of fields.ie) (codes " modulo 4: the upper 2 bits of B, the carry and IE")

-- The line of T - B modulo 2 ^ 14, and of the range that the implied bits put it in.
abbrev pub length_text : Fields → Steps → List ℕ
length_text fields steps =
    with_hexadecimal (codes "T - B     ") ((steps.t + 2 ^ 14 - steps.b) % 2 ^ 14)
    ++ (
    if fields.ie then with_line_feed (codes " modulo 0x4000: the implied bits put it within 0x1000 to 0x1fff")
    else with_line_feed (codes " modulo 0x4000: the implied bits put it within 0x0 to 0xfff")
    )

-- The lines of the exponent and of the mantissas.
abbrev pub mantissas_text : Fields → Steps → List ℕ
mantissas_text fields steps =
    exponent_text fields steps ++ granule_text fields steps ++ base_mantissa_text fields steps
    ++ top_mantissa_text fields steps ++ carry_text steps ++ implied_text fields steps ++ length_text fields steps

-- ---- the window, and the places of the mantissas in it

-- The line of the size of a section.
abbrev pub section_text : Steps → List ℕ
section_text steps = line_with_hexadecimal (codes "section   ") (section_of steps.exponent) (codes " bytes, 2^(E+11)")

-- The line of the sections of the two mantissas and of the address.
abbrev pub sections_text : Fields → Steps → List ℕ
sections_text fields steps =
    with_decimal (codes "sections  ") (steps.b / 2 ^ 11) ++ with_decimal (codes " of B, ") (steps.t / 2 ^ 11)
    ++ line_with_decimal (codes " of T, ") (address_section fields steps) (codes " of the address")

-- The first and the last address of the window, which has every address for exponents of at least
-- 50.
abbrev pub window_addresses_text : Steps → List ℕ
window_addresses_text steps =
    if nat_le 50 steps.exponent then codes "window    every address"
    else with_hexadecimal (codes "window    ") (steps.start % 2 ^ 64)
    ++ with_hexadecimal (codes " to ") ((steps.start + (8 * section_of steps.exponent - 1)) % 2 ^ 64)

-- The line of the window, and of the section with which it begins.
abbrev pub window_text : Steps → List ℕ
window_text steps =
    window_addresses_text steps
    ++ line_with_decimal (codes ": eight sections from ") steps.first_section (codes " on, one below that of B")

-- The line of the upper bits of the address.
abbrev pub upper_text : Fields → Steps → List ℕ
upper_text fields steps =
    line_with_hexadecimal (codes "upper     ") (upper_bits fields steps) (codes ", the bits of the address from bit E+14 up")

-- The line that says which of B, T and the address are in high sections.
abbrev pub high_text : Fields → Steps → List ℕ
high_text fields steps =
    with_decimal (codes "high      ") (bit_of (is_high steps (steps.b / 2 ^ 11)))
    ++ with_decimal (codes " of B, ") (bit_of (is_high steps (steps.t / 2 ^ 11)))
    ++ line_with_decimal (codes " of T, ") (bit_of (is_high steps (address_section fields steps))) (codes " of the address: 1 for a section below the window's first")

-- The correction of the upper bits of the address for a mantissa: 1 more if the mantissa alone is
-- high, and 1 less if the address alone is.
abbrev pub correction_text : (of_mantissa of_address : Bool) → List ℕ
correction_text of_mantissa of_address =
    if of_mantissa then (if of_address then codes "0" else codes "+1")
    else (if of_address then codes "-1" else codes "0")

-- The line of the corrections for B and for T.
abbrev pub corrected_text : Fields → Steps → List ℕ
corrected_text fields steps =
    codes "corrected " ++ correction_text (is_high steps (steps.b / 2 ^ 11)) (is_high steps (address_section fields steps))
    ++ codes " for B, " ++ correction_text (is_high steps (steps.t / 2 ^ 11)) (is_high steps (address_section fields steps))
    ++ with_line_feed (codes " for T: +1 if it alone is high, -1 if the address alone is")

-- The lines of the upper bits, and of how those of B and T differ from them.
abbrev pub corrections_text : Fields → Steps → List ℕ
corrections_text fields steps = upper_text fields steps ++ high_text fields steps ++ corrected_text fields steps

-- The lines of the base and of the top.
abbrev pub bounds_lines : Span → List ℕ
bounds_lines bounds =
    line_with_hexadecimal (codes "base      ") bounds.base (codes ", where B * 2^E stands in the window")
    ++ line_with_hexadecimal (codes "top       ") bounds.top (codes ", where T * 2^E stands in the window")

-- The line of a word whose bounds fields are not those that setting its bounds stores.
abbrev pub other_fields_text : Span → List ℕ
other_fields_text bounds =
    bounds_fields_text (codes "canonical no: setting these bounds stores IE ") (bit_of (ie_of bounds)) (t_of bounds) (b_of bounds) ++ line_feed

-- The line that says whether the word is canonical, or why not.
abbrev pub canonical_text : Option Defect → Span → List ℕ
canonical_text None bounds = with_line_feed (codes "canonical yes")
canonical_text (Some ReservedBits) bounds = with_line_feed (codes "canonical no: a reserved bit is set")
canonical_text (Some ReservedType) bounds = with_line_feed (codes "canonical no: the type is reserved")
canonical_text (Some TopBelowBase) bounds = with_line_feed (codes "canonical no: the top is below the base")
canonical_text (Some TopPastEnd) bounds = with_line_feed (codes "canonical no: the top is above 2^64")
canonical_text (Some OtherFields) bounds = other_fields_text bounds

-- The lines of the window, of the bounds and of whether the word is canonical.
abbrev pub window_lines_text : Fields → Steps → Span → Option Defect → List ℕ
window_lines_text fields steps bounds defect =
    section_text steps ++ sections_text fields steps ++ window_text steps ++ corrections_text fields steps
    ++ bounds_lines bounds ++ canonical_text defect bounds

-- ---- the picture

-- The size of a cell in bytes: an eighth of a section.
abbrev pub cell_size : Steps → ℕ
cell_size steps = section_of steps.exponent / 8

-- AreRows holds if the rows show `#` for the bytes of the bounds, and `B`, `T` and `A` for the byte
-- at the base, top and address.
pub record AreRows (fields : Fields) (steps : Steps) (rows : Rows) : Type 0 where
  pub bytes : IsPictureRow steps.start (cell_size steps) (record { base = steps.base; top = steps.top }) 35 rows.bytes
  pub base : IsPictureRow steps.start (cell_size steps) (span_from steps.base 1) 66 rows.base
  pub top : IsPictureRow steps.start (cell_size steps) (span_from steps.top 1) 84 rows.top
  pub address : IsPictureRow steps.start (cell_size steps) (span_from (raised fields.address) 1) 65 rows.address

-- The line of the numbers of the eight sections of a window, from the given one on, each above its
-- eight cells.
abbrev pub ruler_text : ℕ → List ℕ
ruler_text first =
    with_decimal (codes "section   ") first
    ++ with_decimal (codes "-------") ((first + 1) % 8) ++ with_decimal (codes "-------") ((first + 2) % 8)
    ++ with_decimal (codes "-------") ((first + 3) % 8) ++ with_decimal (codes "-------") ((first + 4) % 8)
    ++ with_decimal (codes "-------") ((first + 5) % 8) ++ with_decimal (codes "-------") ((first + 6) % 8)
    ++ with_decimal (codes "-------") ((first + 7) % 8) ++ with_line_feed (codes "-------")

-- The line of a row and its name.
unfoldable pub row_text : (name row : List ℕ) → List ℕ
row_text name row = name ++ row ++ line_feed

-- The lines of the picture.
abbrev pub picture_text : Steps → Rows → List ℕ
picture_text steps rows =
    line_with_hexadecimal (codes "picture   the window, in cells of ") (cell_size steps) (codes " bytes, 2^(E+8)")
    ++ ruler_text steps.first_section
    ++ row_text (codes "bytes     ") rows.bytes
    ++ row_text (codes "base      ") rows.base
    ++ row_text (codes "top       ") rows.top
    ++ row_text (codes "address   ") rows.address

-- ---- all of it

-- All lines of an explanation.
abbrev pub explanation_of : (word : ℕ) → Fields → Steps → Span → Option Defect → Rows → List ℕ
explanation_of word fields steps bounds defect rows =
    fields_text word fields ++ mantissas_text fields steps ++ window_lines_text fields steps bounds defect
    ++ picture_text steps rows

-- IsWordExplanation holds if the lines are made of these parts: the word's fields, their decoding
-- steps and span, whether the word is canonical, and the picture's rows. There are no other such
-- fields, and there is no other such span.
pub record IsWordExplanation (word : ℕ) (explanation : List ℕ) : Type 0 where
  pub fields : Fields
  pub steps : Steps
  pub bounds : Span
  pub defect : Option Defect
  pub rows : Rows
  pub of_word : word_of fields ≡ word
  pub only_fields : (other : Fields) → word_of other ≡ word → other ≡ fields
  pub are_steps : AreSteps fields steps
  pub decoded : DecodesTo fields bounds
  pub only_bounds : (other : Span) → DecodesTo fields other → other ≡ bounds
  pub is_defect : MatchOption defect (IsCanonical word) (λ reason. (¬ IsCanonical word) × HasDefect fields bounds reason)
  pub are_rows : AreRows fields steps rows
  pub lines : explanation ≡ explanation_of word fields steps bounds defect rows

-- `IsExplanation` holds if the output for a string is the explanation of the word that it is, or the
-- line of the refusal.
abbrev pub IsExplanation : (text explanation : List ℕ) → Type 0
IsExplanation = AnswersTyped IsWordExplanation
