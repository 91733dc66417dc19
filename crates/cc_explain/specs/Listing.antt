-- The output of `show` for a string.
use Rattle.std.specs.Prelude.{ℕ, List, ◌++◌, codes, decimal, Bool, if◌then◌else◌}
use Rattle.cc_word.specs.Word.{bit_of}
use Rattle.cc_word.specs.WordText.{digits_of, hexadecimal}
use Rattle.cc_word.specs.declared.fields.Fields.{Fields}
use Rattle.cc_bounds.specs.declared.span.Span.{Span}
use Rattle.cc_bounds.specs.Decoding.{stored_exponent}
use Rattle.cc_io.specs.Text.{with_line_feed}
use Rattle.cc_io.specs.CommandOutput.{AnswersText}
use Rattle.cc_io.specs.Permissions.{permissions_text}
use Rattle.cc_cap.specs.WordTelling.{TellsWord}

-- A name, one space, a value and the line feed.
abbrev pub line_of : (name value : List ℕ) → List ℕ
line_of name value = with_line_feed (name ++ codes " " ++ value)

-- The lines of a word and of its fields.
abbrev pub field_lines_of : (word : ℕ) (fields : Fields) → List ℕ
field_lines_of word fields =
    line_of (codes "word") (digits_of 32 word)
    ++ line_of (codes "perms") (digits_of 4 fields.perms ++ codes " " ++ permissions_text fields.perms)
    ++ line_of (codes "reserved") (decimal fields.reserved)
    ++ line_of (codes "flag") (decimal (bit_of fields.flag))
    ++ line_of (codes "type") (digits_of 5 fields.otype)
    ++ line_of (codes "ie") (decimal (bit_of fields.ie))
    ++ line_of (codes "t") (digits_of 3 fields.t)
    ++ line_of (codes "b") (digits_of 4 fields.b)
    ++ line_of (codes "address") (hexadecimal fields.address)

-- The lines of the exponent and the bounds that the fields decode to, and of whether the word is
-- canonical.
abbrev pub bounds_lines_of : (fields : Fields) (bounds : Span) (canonical : Bool) → List ℕ
bounds_lines_of fields bounds canonical =
    line_of (codes "exponent") (decimal (stored_exponent fields))
    ++ line_of (codes "base") (hexadecimal bounds.base)
    ++ line_of (codes "top") (hexadecimal bounds.top)
    ++ line_of (codes "canonical") (if canonical then codes "yes" else codes "no")

-- All thirteen lines of a listing.
abbrev pub listing_of : (word : ℕ) (fields : Fields) (bounds : Span) (canonical : Bool) → List ℕ
listing_of word fields bounds canonical = field_lines_of word fields ++ bounds_lines_of fields bounds canonical

-- IsWordListing holds if `listing` lists the word, its fields and the bounds that they decode to.
abbrev pub IsWordListing : (word : ℕ) (listing : List ℕ) → Type 0
IsWordListing = TellsWord listing_of

-- IsListing holds if the listing is the output for a string: for a word, without `0x` before it, its
-- listing, and for any other string `error 1 syntax`.
abbrev pub IsListing : (text listing : List ℕ) → Type 0
IsListing = AnswersText IsWordListing
