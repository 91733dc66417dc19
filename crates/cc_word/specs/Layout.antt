-- The layout of fields before the bits of null are inverted. No public clause cites this file.
use Rattle.std.specs.Prelude.{ℕ}
use Rattle.cc_word.specs.declared.fields.Fields.{Fields}
use Rattle.cc_word.specs.Word.{bit_of, layout_of}

-- The layout of the null capability: type 0x3ffff, IE, T field 6, B field 4.
abbrev pub null_layout : ℕ
null_layout = 0x0000_1fff_fc01_8004_0000_0000_0000_0000

-- The layout of fields: each number at its own bits, none of them inverted.
unfoldable pub plain_layout_of : Fields → ℕ
plain_layout_of fields =
    layout_of fields.perms fields.reserved (bit_of fields.flag) fields.otype (bit_of fields.ie) fields.t fields.b fields.address
