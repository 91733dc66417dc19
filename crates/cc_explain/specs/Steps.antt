-- The intermediate results of decoding, from the fields of a word to its bounds.
use Rattle.std.specs.Prelude.{◌≡◌, ℕ, Bool, ◌+◌, ◌*◌, ◌/◌, ◌%◌, ◌^◌, nat_lt}
use Rattle.cc_word.specs.Word.{bit_of}
use Rattle.cc_word.specs.declared.fields.Fields.{Fields}
use Rattle.cc_bounds.specs.Window.{section_of}
use Rattle.cc_bounds.specs.Decoding.{stored_exponent, base_mantissa, first_section, IsTopMantissa, IsWindow, IsPlaced, raised}
use Rattle.cc_explain.specs.declared.steps.Steps.{Steps}

-- Whether the low 12 bits of T are below those of B: the carry into the two implied bits of T.
abbrev pub carries : Steps → Bool
carries steps = nat_lt (steps.t % 2 ^ 12) (steps.b % 2 ^ 12)

-- The two implied bits of T: bits 13 and 12 of B, the carry and IE, added modulo 4.
abbrev pub implied_bits : Fields → Steps → ℕ
implied_bits fields steps = (steps.b / 2 ^ 12 + bit_of (carries steps) + bit_of fields.ie) % 4

-- ---- the corrections, by which a decoder finds the places of B and T

-- The bits of the address above the size of the window, from bit E + 14 up.
abbrev pub upper_bits : Fields → Steps → ℕ
upper_bits fields steps = fields.address / (8 * section_of steps.exponent)

-- The section, from 0 to 7, of the address.
abbrev pub address_section : Fields → Steps → ℕ
address_section fields steps = fields.address / section_of steps.exponent % 8

-- Whether a section is high: in the window, it is past a multiple of the window's size, since its
-- number is below that of the first section.
abbrev pub is_high : Steps → (section : ℕ) → Bool
is_high steps section = nat_lt section steps.first_section

-- IsCorrected holds if the corrections lead to the place of a mantissa: the upper bits of the address
-- are one more for it if it alone is high, and one less if the address alone is. Below them are the
-- mantissa and E zeros.
abbrev pub IsCorrected : Fields → Steps → (mantissa place : ℕ) → Type 0
IsCorrected fields steps mantissa place =
    place + bit_of (is_high steps (address_section fields steps)) * (8 * section_of steps.exponent)
    ≡ raised ((upper_bits fields steps + bit_of (is_high steps (mantissa / 2 ^ 11))) * (8 * section_of steps.exponent) + mantissa * 2 ^ steps.exponent)

-- ---- the steps

-- AreSteps holds if these are the steps of the fields: their exponent and mantissas, the first
-- section and the start of the window, and the places of B and T in it. The last three are raised
-- by 2^66, four times the size of the address space, as in the definition of decoding. The carry and
-- IE make the implied bits of T, and the corrections the places of B and T.
pub record AreSteps (fields : Fields) (steps : Steps) : Type 0 where
  pub exponent : steps.exponent ≡ stored_exponent fields
  pub base_mantissa : steps.b ≡ base_mantissa fields
  pub top_mantissa : IsTopMantissa fields steps.t
  pub implied : steps.t / 2 ^ 12 ≡ implied_bits fields steps
  pub first_section : steps.first_section ≡ first_section fields
  pub window : IsWindow fields steps.start
  pub base : IsPlaced fields steps.b steps.base
  pub top : IsPlaced fields steps.t steps.top
  pub base_corrected : IsCorrected fields steps steps.b steps.base
  pub top_corrected : IsCorrected fields steps steps.t steps.top
