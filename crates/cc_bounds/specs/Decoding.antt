-- The bounds that a word decodes to. Every word has them, canonical or not.
--
-- The examples below are of the word with IE 1, T field 0x000, B field 0x3f01 and address 0x20010.
use Rattle.std.specs.Prelude.{ℕ, Bool, ◌≡◌, ◌+◌, ◌-◌, ◌*◌, ◌/◌, ◌%◌, ◌^◌, ◌<◌, ◌≤◌, IsTrue, min, if◌then◌else◌}
use Rattle.cc_word.specs.Word.{bit_of}
use Rattle.cc_word.specs.declared.fields.Fields.{Fields}
use Rattle.cc_bounds.specs.declared.span.Span.{Span}
use Rattle.cc_bounds.specs.Window.{section_of}

-- The number that the exponent's two octal digits form: the high one is the low three bits of the T
-- field, the low one those of the B field.
abbrev pub exponent_digits : Fields → ℕ
exponent_digits fields = 8 * (fields.t % 8) + fields.b % 8

-- The exponent as the fields store it: 0 without IE, and with IE its digits.
abbrev pub exponent_field : Fields → ℕ
exponent_field fields = if fields.ie then exponent_digits fields else 0

-- The exponent: 0 without IE, and with IE its digits, or 52 if they are more.
abbrev pub stored_exponent : Fields → ℕ
stored_exponent fields = if fields.ie then min 52 (exponent_digits fields) else 0

-- A stored field without the exponent's bits: with IE its low three bits are treated as zero.
abbrev pub without_exponent : (ie : Bool) (field : ℕ) → ℕ
without_exponent ie field = if ie then field - field % 8 else field

-- The base mantissa B, 14 bits: the B field without the exponent's bits.
abbrev pub base_mantissa : Fields → ℕ
base_mantissa fields = without_exponent fields.ie fields.b

-- `IsTopMantissa` holds if `mantissa` is the top mantissa T, 14 bits. Its low 12 bits are the T
-- field without the exponent's bits. Its upper two bits are those for which the length T - B, modulo
-- 2 ^ 14, is below 2 ^ 12 without IE, and from 2 ^ 12 to 2 ^ 13 - 1 with IE. Example: 0x1000, since
-- 0x1000 + 0x4000 - 0x3f00 = 0x1100.
pub record IsTopMantissa (fields : Fields) (mantissa : ℕ) : Type 0 where
  pub fits : mantissa < 2 ^ 14
  pub stored : mantissa % 2 ^ 12 ≡ without_exponent fields.ie fields.t
  pub implied : (mantissa + 2 ^ 14 - base_mantissa fields) % 2 ^ 14 / 2 ^ 12 ≡ bit_of fields.ie

-- The address plus 2 ^ 66, so that no window begins below zero. 2 ^ 66 is a multiple of each
-- window's size and of 2 ^ 65, so bases and tops do not change.
abbrev pub raised : ℕ → ℕ
raised address = address + 2 ^ 66

-- The size of the window in bytes: eight sections.
abbrev pub window_size : Fields → ℕ
window_size fields = 8 * section_of (stored_exponent fields)

-- The section, from 0 to 7, with which the window begins: the one below that of B, modulo 8.
-- Example: 6, since the section of B is 7.
abbrev pub first_section : Fields → ℕ
first_section fields = (base_mantissa fields / 2 ^ 11 + 7) % 8

-- `IsInWindow` holds if `number` is in the window that begins at `start`. Example: 2^66 + 0x25fff is
-- in the window from 2^66 + 0x1e000, and 2^66 + 0x26000 is not.
pub record IsInWindow (fields : Fields) (start number : ℕ) : Type 0 where
  pub from_start : start ≤ number
  pub below_end : number < start + window_size fields

-- `IsWindow` holds if the window of the word begins at `start`: it begins with its first section,
-- and the raised address is in it.
pub record IsWindow (fields : Fields) (start : ℕ) : Type 0 where
  pub begins : start % window_size fields ≡ first_section fields * section_of (stored_exponent fields)
  pub holds_address : IsInWindow fields start (raised fields.address)

-- `IsPlaced` holds if `place` is the place of `mantissa`: the one number in the window that is
-- mantissa * 2 ^ exponent, modulo the window's size. Example: B is at 2^66 + 0x1fe00, and T at 2^66
-- + 0x22000.
pub record IsPlaced (fields : Fields) (mantissa place : ℕ) : Type 0 where
  pub start : ℕ
  pub is_window : IsWindow fields start
  pub in_window : IsInWindow fields start place
  pub scaled : place % window_size fields ≡ mantissa * 2 ^ stored_exponent fields

-- `IsDecodedBase` holds if `base` is the base: the low 64 bits of the place of B.
pub record IsDecodedBase (fields : Fields) (base : ℕ) : Type 0 where
  pub place : ℕ
  pub is_place : IsPlaced fields (base_mantissa fields) place
  pub kept : base ≡ place % 2 ^ 64

-- `IsTopBeside` holds if `top` is the top for this base, from the place of T. At exponents of at
-- least 51, it is the low 65 bits of that place. Below, it has the low 64 bits of that place, and
-- bit 64 makes the number of bits 64 and 63 that of the base, or one more, modulo 4. Example:
-- 0x22000.
pub record IsTopBeside (exponent base place top : ℕ) : Type 0 where
  pub fits : top < 2 ^ 65
  pub large : 51 ≤ exponent → top ≡ place % 2 ^ 65
  pub small : exponent < 51 → top % 2 ^ 64 ≡ place % 2 ^ 64
  pub near : exponent < 51 → (top / 2 ^ 63 + 4 - base / 2 ^ 63) % 4 ≤ 1

-- `IsDecodedTop` holds if `top` is the top of these fields for this base, from the place of their
-- top mantissa.
pub record IsDecodedTop (fields : Fields) (base top : ℕ) : Type 0 where
  pub mantissa : ℕ
  pub place : ℕ
  pub is_mantissa : IsTopMantissa fields mantissa
  pub is_place : IsPlaced fields mantissa place
  pub is_top : IsTopBeside (stored_exponent fields) base place top

-- `DecodesTo` holds if a word with these fields decodes to `span`. Example: [0x1fe00, 0x22000).
pub record DecodesTo (fields : Fields) (span : Span) : Type 0 where
  pub is_base : IsDecodedBase fields span.base
  pub is_top : IsDecodedTop fields span.base span.top

-- `SharesBoundsFields` holds if `other` has the same bounds fields as `fields`: IE, T and B.
pub record SharesBoundsFields (fields other : Fields) : Type 0 where
  pub ie : other.ie ≡ fields.ie
  pub t : other.t ≡ fields.t
  pub b : other.b ≡ fields.b

-- `EveryBitCounts` holds if every bit of the bounds fields counts in the bounds that they decode to.
-- With IE, the exponent's digits are at most 52, and no bit of B is above bit 63, since the base
-- keeps none there. Up to exponent 50, no bit of B can be. Example: not for the exponent's digits
-- 53, as in `ffff0000000000010000000000000000`.
pub record EveryBitCounts (fields : Fields) : Type 0 where
  pub digits : IsTrue fields.ie → exponent_digits fields ≤ 52
  pub base : base_mantissa fields * 2 ^ stored_exponent fields < 2 ^ 64

-- `ExactlyOne` holds if exactly one value has the property `P`.
pub record ExactlyOne {V : Type 0} (P : V → Type 0) : Type 0 where
  pub value : V
  pub has : P value
  pub only : (other : V) → P other → other ≡ value
