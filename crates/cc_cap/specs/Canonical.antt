-- The word of a capability, and canonical words: those that are the word of a capability.
use Rattle.std.specs.Prelude.{ℕ, ◌≡◌, ◌-◌}
use Rattle.cc_word.specs.declared.fields.Fields.{Fields}
use Rattle.cc_word.specs.Word.{bit_of, turned, layout_of, word_of}
use Rattle.cc_bounds.specs.Encoding.{HasBoundsFields, ie_of, t_of, b_of}
use Rattle.cc_cap.specs.Capability.{Capability, IsCapability}

-- `IsFieldsOf` holds if `fields` encode the capability: its bounds as they are stored, zeros in the
-- reserved bits, and its permissions, flag, type and address as they are.
pub record IsFieldsOf (cap : Capability) (fields : Fields) : Type 0 where
  pub permissions : fields.perms ≡ cap.permissions
  pub reserved : fields.reserved ≡ 0
  pub flag : fields.flag ≡ cap.flag
  pub otype : fields.otype ≡ cap.otype
  pub bounds : HasBoundsFields cap.span fields.ie fields.t fields.b
  pub address : fields.address ≡ cap.address

-- `IsWordOf` holds if `word` is the word of the capability, and this is a capability that can
-- exist.
pub record IsWordOf (cap : Capability) (word : ℕ) : Type 0 where
  pub is_capability : IsCapability cap
  pub fields : Fields
  pub is_fields : IsFieldsOf cap fields
  pub is_word : word ≡ word_of fields

-- `IsCanonical` holds if the word is the word of some capability. Example:
-- `ffff0000000000010000000000000000`, with exponent field 53, has the bounds of the root and is not
-- canonical.
abbrev pub IsCanonical : ℕ → Type 0
IsCanonical word = (cap : Capability) × IsWordOf cap word

-- ---- An executable definition, for definitions that use words. The contract of `Cap::word`
-- relates it to the definition above.

-- The word of a capability.
unfoldable pub word_of_capability : Capability → ℕ
word_of_capability cap =
    layout_of cap.permissions 0 (bit_of cap.flag) (0x3ffff - cap.otype) (1 - bit_of (ie_of cap.span))
    (turned 2 (turned 1 (t_of cap.span))) (turned 2 (b_of cap.span)) cap.address
