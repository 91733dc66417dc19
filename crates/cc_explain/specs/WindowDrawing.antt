-- A drawing of the window of a word, as an SVG document. A unit of its width is 2 ^ exponent bytes,
-- so the window is 16,384 units wide. It has only fixed strings and digits, so no character needs an
-- escape.
use Rattle.std.specs.Prelude.{◌≡◌, ℕ, ◌+◌, ◌-◌, ◌*◌, ◌/◌, ◌%◌, ◌^◌, List, ◌++◌, codes, nat_le, nat_lt, if◌then◌else◌}
use Rattle.cc_word.specs.Word.{word_of}
use Rattle.cc_word.specs.declared.fields.Fields.{Fields}
use Rattle.cc_bounds.specs.declared.span.Span.{Span}
use Rattle.cc_bounds.specs.Decoding.{DecodesTo, raised}
use Rattle.cc_bounds.specs.Window.{section_of}
use Rattle.cc_io.specs.Svg.{markup, opening_text, sheet_text}
use Rattle.cc_io.specs.Numbered.{line_with_decimal, line_with_hexadecimal, with_decimal, with_digits, with_hexadecimal}
use Rattle.cc_io.specs.CommandOutput.{AnswersTyped}
use Rattle.cc_explain.specs.Steps.{AreSteps}
use Rattle.cc_explain.specs.declared.steps.Steps.{Steps}

-- ---- the places

-- The number of units from the start of the window to a place in it, rounded down. The places of
-- the base and of the top are whole units.
abbrev pub units_to : Steps → (place : ℕ) → ℕ
units_to steps place = (place - steps.start) / 2 ^ steps.exponent

-- ---- the head

-- The document's title, and what it shows.
abbrev pub title_text : (word : ℕ) → Fields → Span → List ℕ
title_text word fields bounds =
    with_digits (codes "<title>The window of ") 32 word ++ codes "</title>\n"
    ++ with_hexadecimal (codes "<desc>Bounds from ") bounds.base ++ with_hexadecimal (codes " to ") bounds.top
    ++ line_with_hexadecimal (codes ", address ") fields.address (codes ".</desc>")

-- The line above the drawing: the word, its exponent, and the size of a section.
abbrev pub heading_text : (word : ℕ) → Steps → List ℕ
heading_text word steps =
    with_digits (codes "<text y='-928'>") 32 word ++ with_decimal (codes ": exponent ") steps.exponent
    ++ line_with_hexadecimal (codes ", eight sections of ") (section_of steps.exponent) (codes " bytes</text>")

-- ---- the window

-- The rectangle of the window, and the lines between its sections.
abbrev pub window_ground_text : List ℕ
window_ground_text =
    markup (codes "<rect width='16384' height='960' fill='#f2cf63'/>\n")
    ++ markup
    (codes "<path d='M2048,0V960M4096,0V960M6144,0V960M8192,0V960M10240,0V960M12288,0V960M14336,0V960' stroke='#7c6518' stroke-width='16'/>\n")

-- The number of a section, from 0 to 7, at its middle.
abbrev pub number_text : (before : List ℕ) (number : ℕ) → List ℕ
number_text before number = line_with_decimal before number (codes "</text>")

-- The numbers of the eight sections, from the given one on.
abbrev pub numbers_text : (first : ℕ) → List ℕ
numbers_text first =
    codes "<g text-anchor='middle'>\n"
    ++ number_text (codes "<text x='1024' y='880'>") first ++ number_text (codes "<text x='3072' y='880'>") ((first + 1) % 8)
    ++ number_text (codes "<text x='5120' y='880'>") ((first + 2) % 8) ++ number_text (codes "<text x='7168' y='880'>") ((first + 3) % 8)
    ++ number_text (codes "<text x='9216' y='880'>") ((first + 4) % 8) ++ number_text (codes "<text x='11264' y='880'>") ((first + 5) % 8)
    ++ number_text (codes "<text x='13312' y='880'>") ((first + 6) % 8) ++ number_text (codes "<text x='15360' y='880'>") ((first + 7) % 8)
    ++ codes "</g>\n"

-- The first and the last address of a window, below its ends.
abbrev pub addresses_text : (first last : ℕ) → List ℕ
addresses_text first last =
    line_with_hexadecimal (codes "<text y='1760'>window from ") first (codes "</text>")
    ++ line_with_hexadecimal (codes "<text x='16384' y='1760' text-anchor='end'>to ") last (codes "</text>")

-- The first and the last address of the window, which has every address for exponents of at least 50.
abbrev pub ends_text : Steps → List ℕ
ends_text steps =
    if nat_le 50 steps.exponent then codes "<text y='1760'>window: every address</text>\n"
    else addresses_text (steps.start % 2 ^ 64) ((steps.start + (8 * section_of steps.exponent - 1)) % 2 ^ 64)

-- ---- the bounds and the address

-- The rectangle of the bounds.
abbrev pub bounds_bar_text : Steps → List ℕ
bounds_bar_text steps =
    with_decimal (codes "<rect y='120' height='480' x='") (units_to steps steps.base)
    ++ line_with_decimal (codes "' width='") (units_to steps steps.top - units_to steps steps.base) (codes "' fill='#067647' stroke='#067647' stroke-width='32'/>")

-- The mark of an end of the bounds.
abbrev pub end_mark_text : (units : ℕ) → List ℕ
end_mark_text units = line_with_decimal (codes "<path d='M") units (codes ",-480V960' stroke='#067647' stroke-width='32'/>")

-- The marks of the base and of the top, with the addresses that the word decodes to.
abbrev pub bounds_marks_text : Steps → Span → List ℕ
bounds_marks_text steps bounds =
    end_mark_text (units_to steps steps.base)
    ++ with_decimal (codes "<text x='") (units_to steps steps.base)
    ++ line_with_hexadecimal (codes "' dx='-96' y='-288' text-anchor='end'>base ") bounds.base (codes "</text>")
    ++ end_mark_text (units_to steps steps.top)
    ++ with_decimal (codes "<text x='") (units_to steps steps.top)
    ++ line_with_hexadecimal (codes "' dx='96' y='-288'>top ") bounds.top (codes "</text>")

-- The side of its mark on which the address is: the right one in the window's first half, and
-- otherwise the left one.
abbrev pub side_text : (units : ℕ) → List ℕ
side_text units = if nat_lt units 8192 then codes "' dx='96'" else codes "' dx='-96' text-anchor='end'"

-- The mark of the address, with its number.
abbrev pub address_mark_text : Steps → (address : ℕ) → List ℕ
address_mark_text steps address =
    line_with_decimal (codes "<path d='M") (units_to steps (raised address)) (codes ",0V1360' stroke='#b42318' stroke-width='32'/>")
    ++ with_decimal (codes "<text x='") (units_to steps (raised address)) ++ side_text (units_to steps (raised address))
    ++ line_with_hexadecimal (codes " y='1320' fill='#b42318'>address ") address (codes "</text>")

-- ---- the document

-- All of the drawing.
abbrev pub window_drawing_of : (word : ℕ) → Fields → Steps → Span → List ℕ
window_drawing_of word fields steps bounds =
    opening_text (codes "width='1216' height='197' viewBox='-1536 -1232 19456 3152' font-family='monospace' font-size='240'")
    ++ title_text word fields bounds ++ sheet_text (codes "x='-1536' y='-1232' width='19456' height='3152'") ++ heading_text word steps
    ++ window_ground_text ++ bounds_bar_text steps ++ numbers_text steps.first_section ++ bounds_marks_text steps bounds ++ address_mark_text steps fields.address
    ++ ends_text steps ++ markup (codes "</svg>\n")

-- IsWordDrawing holds if the drawing is made of the word's fields, their decoding steps and their
-- span. There are no other such fields, and there is no other such span.
pub record IsWordDrawing (word : ℕ) (drawing : List ℕ) : Type 0 where
  pub fields : Fields
  pub steps : Steps
  pub bounds : Span
  pub of_word : word_of fields ≡ word
  pub only_fields : (other : Fields) → word_of other ≡ word → other ≡ fields
  pub are_steps : AreSteps fields steps
  pub decoded : DecodesTo fields bounds
  pub only_bounds : (other : Span) → DecodesTo fields other → other ≡ bounds
  pub lines : drawing ≡ window_drawing_of word fields steps bounds

-- `IsWindowDrawing` holds if the output for a string is the drawing of the window of the word that it
-- is, or the line of the refusal.
abbrev pub IsWindowDrawing : (text drawing : List ℕ) → Type 0
IsWindowDrawing = AnswersTyped IsWordDrawing
