-- Capabilities, the bytes and permissions that they grant, and capabilities that differ in one
-- part.
use Rattle.std.specs.Prelude.{ℕ, Bool, false, ◌≡◌, ◌==◌, ◌≤◌, ◌<◌, ◌^◌, if◌then◌else◌}
use Rattle.std.specs.Int.RustNames.{bit_and}
use Rattle.bitflags.specs.Sets.{without}
use Rattle.cc_bounds.specs.declared.span.Span.{Span}
use Rattle.cc_bounds.specs.Span.{IsSpan, HasByte, IsWithin, from_zero}
use Rattle.cc_bounds.specs.Granule.{IsSound}
use Rattle.cc_bounds.specs.Window.{Represents}
use Rattle.cc_word.specs.Permissions.{HasAll, global_permission}
use Rattle.cc_word.specs.ObjType.{IsObjType, last_sealing_type, unsealed_type}

-- A capability: the span that it grants, its own address, its permissions as bits, its flag and its
-- type.
pub record Capability : Type 0 where
  pub span : Span
  pub address : ℕ
  pub permissions : ℕ
  pub flag : Bool
  pub otype : ℕ

-- `IsCapability` holds of every capability that exists: its span is sound, its address is
-- representable for the span, its permissions are among the sixteen, and its type is unsealed or one
-- that sealing gives. Each is either unsealed or sealed, and not both.
pub record IsCapability (cap : Capability) : Type 0 where
  pub is_span : IsSpan cap.span
  pub sound : IsSound cap.span
  pub address_fits : cap.address < 2 ^ 64
  pub representable : Represents cap.span cap.address
  pub permissions_fit : cap.permissions < 2 ^ 16
  pub is_type : IsObjType cap.otype

-- `IsUnsealed` holds if the type is 0x3ffff, that of an unsealed capability.
abbrev pub IsUnsealed : Capability → Type 0
IsUnsealed cap = cap.otype ≡ unsealed_type

-- `IsSealed` holds if the type is one that sealing gives: at most 0x3ffef.
abbrev pub IsSealed : Capability → Type 0
IsSealed cap = cap.otype ≤ last_sealing_type

-- `Grants` holds if the capability grants the byte.
abbrev pub Grants : Capability → ℕ → Type 0
Grants cap byte = HasByte cap.span byte

-- `GrantsNoMore` holds if the child's span is within the parent's, and its permissions are among the
-- parent's. Flag and type do not count.
pub record GrantsNoMore (child parent : Capability) : Type 0 where
  pub bytes : IsWithin child.span parent.span
  pub permissions : HasAll parent.permissions child.permissions

-- The root capability: every permission over every address.
abbrev pub root_capability : Capability
root_capability = record {
  span = from_zero (2 ^ 64);
  address = 0;
  permissions = 0xffff;
  flag = false;
  otype = unsealed_type;
}

-- The capability with this address.
abbrev pub at_address : Capability → ℕ → Capability
at_address cap address = record cap { address = address }

-- The capability with this span.
abbrev pub with_span : Capability → Span → Capability
with_span cap span = record cap { span = span }

-- The capability with these permissions.
abbrev pub with_permissions : Capability → ℕ → Capability
with_permissions cap permissions = record cap { permissions = permissions }

-- The capability with this flag.
abbrev pub with_flag : Capability → Bool → Capability
with_flag cap flag = record cap { flag = flag }

-- The capability, sealed with this type.
abbrev pub sealed_with : Capability → ℕ → Capability
sealed_with cap otype = record cap { otype = otype }

-- The permissions that unsealing leaves of a capability's permissions: GLOBAL stays only if the
-- authority has it too. Example: of 0xffff, an authority with 0x200 alone leaves 0xfffe, and one
-- with 0x201 leaves 0xffff.
abbrev pub unsealed_permissions : (permissions authority : ℕ) → ℕ
unsealed_permissions permissions authority =
    if bit_and authority global_permission == global_permission then permissions
    else without 16 permissions global_permission

-- The capability, unsealed by an authority.
abbrev pub unsealed_by : Capability → Capability → Capability
unsealed_by cap authority = record cap {
  permissions = unsealed_permissions cap.permissions authority.permissions;
  otype = unsealed_type;
}
