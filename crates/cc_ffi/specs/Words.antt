-- The fields of a word, as C has them.
use Rattle.std.specs.Prelude.{ℕ, ◌≡◌, ◌%◌, ◌^◌}
use Rattle.cc_word.specs.Word.{word_of}
use Rattle.cc_word.specs.declared.fields.Fields.{Fields}
use Rattle.cc_ffi.specs.declared.structs.WordFields.{WordFields}

-- OfFields holds if the fields of the word have the property.
abbrev pub OfFields : (word : ℕ) (P : Fields → Type 0) → Type 0
OfFields word P = (fields : Fields) → word_of fields ≡ word → P fields

-- IsSame holds if C's struct has the numbers of these fields.
pub record IsSame (given : WordFields) (fields : Fields) : Type 0 where
  pub perms : given.perms ≡ fields.perms
  pub reserved : given.reserved ≡ fields.reserved
  pub flag : given.flag ≡ fields.flag
  pub otype : given.otype ≡ fields.otype
  pub ie : given.ie ≡ fields.ie
  pub t : given.t ≡ fields.t
  pub b : given.b ≡ fields.b
  pub address : given.address ≡ fields.address

-- IsCut holds if the fields are C's, each number cut to the lowest bits that its field holds.
pub record IsCut (given : WordFields) (fields : Fields) : Type 0 where
  pub perms : fields.perms ≡ given.perms
  pub reserved : fields.reserved ≡ given.reserved % 2 ^ 2
  pub flag : fields.flag ≡ given.flag
  pub otype : fields.otype ≡ given.otype % 2 ^ 18
  pub ie : fields.ie ≡ given.ie
  pub t : fields.t ≡ given.t % 2 ^ 12
  pub b : fields.b ≡ given.b % 2 ^ 14
  pub address : fields.address ≡ given.address
