-- The one-line form of a word.
use Rattle.std.specs.Prelude.{ℕ, Bool, ◌≡◌, ◌==◌, ◌-◌, ◌<◌, ◌≤◌, ◌^◌, List, [], ◌++◌, codes, if◌then◌else◌}
use Rattle.std.specs.Int.RustNames.{bit_and}
use Rattle.cc_word.specs.declared.fields.Fields.{Fields}
use Rattle.cc_word.specs.Word.{word_of}
use Rattle.cc_word.specs.WordText.{hexadecimal}
use Rattle.cc_bounds.specs.declared.span.Span.{Span}
use Rattle.cc_bounds.specs.Decoding.{DecodesTo}
use Rattle.cc_word.specs.ObjType.{sentry_type, unsealed_type}

-- The letter of a permission if the set has it, otherwise nothing.
abbrev pub letter_of : (letter : List ℕ) (permissions permission : ℕ) → List ℕ
letter_of letter permissions permission = if bit_and permissions permission == permission then letter else []

-- The letters of the permissions that the set has, in this order: `r` LOAD, `w` STORE, `x` EXECUTE,
-- `R` LOAD_CAP and `W` STORE_CAP. The other permissions have no letter.
abbrev pub letters_of : ℕ → List ℕ
letters_of permissions =
    letter_of (codes "r") permissions (2 ^ 2) ++ letter_of (codes "w") permissions (2 ^ 3)
    ++ letter_of (codes "x") permissions (2 ^ 1) ++ letter_of (codes "R") permissions (2 ^ 4)
    ++ letter_of (codes "W") permissions (2 ^ 5)

-- The mark of the type and the tag. For a tagged word it is empty if the type is unsealed, and
-- otherwise a space and `(sentry)` for type 0x3fffe, or `(sealed)` for any other type, including
-- reserved ones. Without a tag it is a space and `(invalid)`, `(invalid,sentry)` or
-- `(invalid,sealed)`.
abbrev pub marks_of : (otype : ℕ) (tagged : Bool) → List ℕ
marks_of otype tagged =
    if otype == unsealed_type then (if tagged then [] else codes " (invalid)")
    else if otype == sentry_type then (if tagged then codes " (sentry)" else codes " (invalid,sentry)")
    else (if tagged then codes " (sealed)" else codes " (invalid,sealed)")

-- The address, then in brackets the letters, the base and the top, and then the mark. Example:
-- `0x10070 [rwxRW,0x10070-0x12070]`.
abbrev pub word_line_of : (fields : Fields) (bounds : Span) (tagged : Bool) → List ℕ
word_line_of fields bounds tagged =
    hexadecimal fields.address ++ codes " [" ++ letters_of fields.perms ++ codes ","
    ++ hexadecimal bounds.base ++ codes "-" ++ hexadecimal bounds.top ++ codes "]" ++ marks_of fields.otype tagged

-- `IsWordLine` holds if `line` is the one-line form of the word: that of its fields and of the
-- bounds that they decode to. No other fields and no other bounds are such. Example: null without
-- its tag has `0x0 [,0x0-0x10000000000000000] (invalid)`.
pub record IsWordLine (word : ℕ) (tagged : Bool) (line : List ℕ) : Type 0 where
  pub fields : Fields
  pub bounds : Span
  pub of_word : word_of fields ≡ word
  pub decoded : DecodesTo fields bounds
  pub text : line ≡ word_line_of fields bounds tagged

-- ---- For the body alone.

-- `HasDigits` holds if `number` has `count` hexadecimal digits, and no fewer.
pub record HasDigits (count number : ℕ) : Type 0 where
  pub some : 1 ≤ count
  pub most : count ≤ 17
  pub fits : number < 16 ^ count
  pub least : 1 < count → 16 ^ (count - 1) ≤ number
