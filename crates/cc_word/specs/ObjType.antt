-- The object types that a capability may have.
use Rattle.std.specs.Prelude.{ℕ, ◌≡◌, ◌≤◌, ◌⊎◌}

-- The last type that sealing gives.
abbrev pub last_sealing_type : ℕ
last_sealing_type = 0x3ffef

-- The type of a sealed entry, which is reserved.
abbrev pub sentry_type : ℕ
sentry_type = 0x3fffe

-- The type of an unsealed capability.
abbrev pub unsealed_type : ℕ
unsealed_type = 0x3ffff

-- `IsObjType` holds if the type is one that sealing gives, or the type of an unsealed capability.
abbrev pub IsObjType : ℕ → Type 0
IsObjType otype = (otype ≤ last_sealing_type) ⊎ (otype ≡ unsealed_type)
