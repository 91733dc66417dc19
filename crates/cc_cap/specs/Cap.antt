-- The representation of a capability in a `Cap`. No public clause cites this file.
use Rattle.std.proofs.Common.{sym}
use Rattle.std.specs.Prelude.{ℕ, true, ◌≡◌, ◌⊎◌, Result, Err, IsOk, MatchResult}
use Rattle.cc_word.specs.Refusal.{RefusedUnless}
use Rattle.cc_word.specs.declared.refusal.Refusal.{Refusal}
use Rattle.cc_word.specs.declared.refusal.Refusal.TheVariants.{Sealed, OutOfBounds, MissingPermission, NotCanonical}
use Rattle.cc_cap.specs.declared.cap.Cap.TheInside.{Inside}
use Rattle.cc_cap.specs.Bounds.{encoding_of}
use Rattle.cc_word.specs.Permissions.{bits_of, HasAll}
use Rattle.cc_cap.specs.Capability.{Capability, IsCapability, IsUnsealed, Grants}
use Rattle.cc_cap.specs.Canonical.{IsWordOf, IsCanonical}

-- The capability that a `Cap` represents.
abbrev pub value_of : Inside → Capability
value_of inside = record {
  span = inside.set.granted;
  address = inside.address;
  permissions = bits_of inside.perms;
  flag = inside.flag;
  otype = inside.otype;
}

-- `IsWellFormed` holds if the capability can exist, and its encoding is marked exact, even if its
-- bounds were rounded.
pub record IsWellFormed (inside : Inside) : Type 0 where
  pub exact : inside.set.exact ≡ true
  pub is_capability : IsCapability (value_of inside)

-- The one inside of a `Cap` that represents this capability.
abbrev pub inside_of : Capability → Inside
inside_of cap = record {
  set = encoding_of cap.span;
  address = cap.address;
  perms = record { 0 = cap.permissions };
  flag = cap.flag;
  otype = cap.otype;
}

-- The inside of the capability that a well-formed inside represents is that inside.
pub inside_of-value_of : (inside : Inside) → IsWellFormed inside → inside_of (value_of inside) ≡ inside
inside_of-value_of inside formed =
    λ i. record inside { set = record { granted = inside.set.granted; exact = sym formed.exact i } }

-- `ChecksAuthority` holds if the two checks of an authority give `result`, in order: it has the
-- permission, and it grants its own address.
abbrev pub ChecksAuthority : Capability → ℕ → Result Unit Refusal → Type 0
ChecksAuthority authority permission result =
    RefusedUnless (HasAll authority.permissions permission) (result ≡ Err MissingPermission) (
    RefusedUnless (Grants authority authority.address) (result ≡ Err OutOfBounds) (
    IsOk result))

-- `IsReadFrom` holds if `result` is the word's capability, or `NotCanonical` if no capability has
-- the word.
abbrev pub IsReadFrom : ℕ → Result Capability Refusal → Type 0
IsReadFrom word result =
    MatchResult result (λ cap. IsWordOf cap word) (λ refusal. (¬ IsCanonical word) × (refusal ≡ NotCanonical))

-- `IsRefusedWord` holds if `refusal` says why no unsealed capability has the word: `Sealed` if a
-- sealed one has it, otherwise `NotCanonical`.
abbrev pub IsRefusedWord : ℕ → Refusal → Type 0
IsRefusedWord word refusal =
    ((¬ IsCanonical word) × (refusal ≡ NotCanonical))
    ⊎ ((cap : Capability) × IsWordOf cap word × (¬ IsUnsealed cap) × (refusal ≡ Sealed))

-- `IsUnsealedFrom` holds if `result` is the unsealed capability that has the word, or the refusal of
-- the word.
abbrev pub IsUnsealedFrom : ℕ → Result Capability Refusal → Type 0
IsUnsealedFrom word result =
    MatchResult result (λ cap. IsWordOf cap word × IsUnsealed cap) (IsRefusedWord word)
