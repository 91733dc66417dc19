-- The word of fields.
use Rattle.std.specs.Prelude.{ℕ, Bool, ◌+◌, ◌-◌, ◌*◌, ◌/◌, ◌%◌, ◌^◌, ◌==◌, if◌then◌else◌}
use Rattle.cc_word.specs.declared.fields.Fields.{Fields}

-- 1 for a bit that is set, otherwise 0.
abbrev pub bit_of : Bool → ℕ
bit_of bit = if bit then 1 else 0

-- `number` with this bit inverted: 2 ^ bit less if the bit is set, otherwise 2 ^ bit more.
abbrev pub turned : (bit number : ℕ) → ℕ
turned bit number = if number / 2 ^ bit % 2 == 1 then number - 2 ^ bit else number + 2 ^ bit

-- The layout: the sum of the fields, each times 2 to the power of its lowest bit.
abbrev pub layout_of : (perms reserved flag otype ie t b address : ℕ) → ℕ
layout_of perms reserved flag otype ie t b address =
    perms * 2 ^ 112 + reserved * 2 ^ 110 + flag * 2 ^ 109 + otype * 2 ^ 91 + ie * 2 ^ 90
    + t * 2 ^ 78 + b * 2 ^ 64 + address

-- The word of fields: their layout with the type replaced by 0x3ffff - type, IE by 1 - IE, and bits
-- 1 and 2 of the T field and bit 2 of the B field inverted. So the word of null is 0: its fields are
-- type 0x3ffff, IE 1, T field 6, B field 4, and 0 otherwise.
abbrev pub word_of : Fields → ℕ
word_of fields =
    layout_of fields.perms fields.reserved (bit_of fields.flag) (0x3ffff - fields.otype)
    (1 - bit_of fields.ie) (turned 2 (turned 1 fields.t)) (turned 2 fields.b) fields.address
