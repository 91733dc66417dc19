-- The rules by which one capability is derived from another. The checks of a rule are in the order
-- in which they are made, and the first that fails decides the result.
use Rattle.std.specs.Prelude.{ℕ, Bool, true, false, ◌≡◌, ◌+◌, ◌%◌, ◌^◌, ◌≤◌, Result, Ok, Err}
use Rattle.std.specs.Int.RustNames.{bit_and}
use Rattle.cc_word.specs.Refusal.{RefusedUnless}
use Rattle.cc_word.specs.declared.refusal.Refusal.{Refusal}
use Rattle.cc_word.specs.declared.refusal.Refusal.TheVariants.{Sealed, Unsealed, OutOfBounds, Inexact, Unrepresentable, MissingPermission, ReservedType, TypeMismatch, NotCanonical, ExceedsAuthority}
use Rattle.cc_bounds.specs.declared.span.Span.{Span}
use Rattle.cc_bounds.specs.Span.{IsWithin, span_from}
use Rattle.cc_bounds.specs.Granule.{IsGranted, IsSound}
use Rattle.cc_bounds.specs.Window.{Represents}
use Rattle.cc_word.specs.ObjType.{last_sealing_type}
use Rattle.cc_word.specs.Permissions.{HasAll, seal_permission, unseal_permission}
use Rattle.cc_cap.specs.Capability.{Capability, IsUnsealed, IsSealed, Grants, GrantsNoMore, at_address, with_span, with_permissions, with_flag, sealed_with, unsealed_by}
use Rattle.cc_cap.specs.Canonical.{IsWordOf, IsCanonical}

-- `SetsAddress` holds if `result` is the capability at this address, or a refusal: `Sealed`;
-- `Unrepresentable` for an address that is not representable for the span.
abbrev pub SetsAddress : Capability → ℕ → Result Capability Refusal → Type 0
SetsAddress cap address result =
    RefusedUnless (IsUnsealed cap) (result ≡ Err Sealed) (
    RefusedUnless (Represents cap.span address) (result ≡ Err Unrepresentable) (
    result ≡ Ok (at_address cap address)))

-- `Increments` holds if `SetsAddress` does for the capability's address plus `amount`, modulo 2^64.
abbrev pub Increments : Capability → ℕ → Result Capability Refusal → Type 0
Increments cap amount result = SetsAddress cap ((cap.address + amount) % 2 ^ 64) result

-- The span that is requested when bounds of this length are set: it begins at the address.
abbrev pub request_of : Capability → ℕ → Span
request_of cap length = span_from cap.address length

-- `SetsBounds` holds if `result` is the capability with the granted span of the request, or a
-- refusal: `Sealed`; `OutOfBounds` for a request that is not within the span.
abbrev pub SetsBounds : Capability → ℕ → Result Capability Refusal → Type 0
SetsBounds cap length result =
    RefusedUnless (IsUnsealed cap) (result ≡ Err Sealed) (
    RefusedUnless (IsWithin (request_of cap length) cap.span) (result ≡ Err OutOfBounds) (
    (granted : Span) × IsGranted (request_of cap length) granted × (result ≡ Ok (with_span cap granted))))

-- `SetsExactBounds` holds if `result` is the capability with the request as its span, or a refusal:
-- those of `SetsBounds`, then `Inexact` for a request that is not granted as it is.
abbrev pub SetsExactBounds : Capability → ℕ → Result Capability Refusal → Type 0
SetsExactBounds cap length result =
    RefusedUnless (IsUnsealed cap) (result ≡ Err Sealed) (
    RefusedUnless (IsWithin (request_of cap length) cap.span) (result ≡ Err OutOfBounds) (
    RefusedUnless (IsSound (request_of cap length)) (result ≡ Err Inexact) (
    result ≡ Ok (with_span cap (request_of cap length)))))

-- The rule that sets bounds: exact ones, or those that are granted.
abbrev pub SetsBoundsBy : (exact : Bool) → Capability → (length : ℕ) → Result Capability Refusal → Type 0
SetsBoundsBy true = SetsExactBounds
SetsBoundsBy false = SetsBounds

-- `MasksPermissions` holds if `result` is the capability with those of its permissions that are also
-- in the mask, or the refusal `Sealed`.
abbrev pub MasksPermissions : Capability → ℕ → Result Capability Refusal → Type 0
MasksPermissions cap mask result =
    RefusedUnless (IsUnsealed cap) (result ≡ Err Sealed) (
    result ≡ Ok (with_permissions cap (bit_and cap.permissions mask)))

-- `SetsFlag` holds if `result` is the capability with this flag, or the refusal `Sealed`.
abbrev pub SetsFlag : Capability → Bool → Result Capability Refusal → Type 0
SetsFlag cap flag result =
    RefusedUnless (IsUnsealed cap) (result ≡ Err Sealed) (
    result ≡ Ok (with_flag cap flag))

-- `Seals` holds if `result` is the capability sealed with the authority's address as the type, or a
-- refusal:
--
-- - `Sealed` unless both are unsealed
-- - `MissingPermission` unless the authority has SEAL
-- - `OutOfBounds` unless the authority grants its own address
-- - `ReservedType` for an address above 0x3ffef
abbrev pub Seals : Capability → Capability → Result Capability Refusal → Type 0
Seals cap authority result =
    RefusedUnless (IsUnsealed cap × IsUnsealed authority) (result ≡ Err Sealed) (
    RefusedUnless (HasAll authority.permissions seal_permission) (result ≡ Err MissingPermission) (
    RefusedUnless (Grants authority authority.address) (result ≡ Err OutOfBounds) (
    RefusedUnless (authority.address ≤ last_sealing_type) (result ≡ Err ReservedType) (
    result ≡ Ok (sealed_with cap authority.address)))))

-- `Unseals` holds if `result` is the capability unsealed, with GLOBAL only if both have it, or a
-- refusal:
--
-- - `Unsealed` unless the capability is sealed
-- - `Sealed` unless the authority is unsealed
-- - `MissingPermission` unless the authority has UNSEAL
-- - `OutOfBounds` unless the authority grants its own address
-- - `TypeMismatch` unless this address is the type
abbrev pub Unseals : Capability → Capability → Result Capability Refusal → Type 0
Unseals cap authority result =
    RefusedUnless (IsSealed cap) (result ≡ Err Unsealed) (
    RefusedUnless (IsUnsealed authority) (result ≡ Err Sealed) (
    RefusedUnless (HasAll authority.permissions unseal_permission) (result ≡ Err MissingPermission) (
    RefusedUnless (Grants authority authority.address) (result ≡ Err OutOfBounds) (
    RefusedUnless (authority.address ≡ cap.otype) (result ≡ Err TypeMismatch) (
    result ≡ Ok (unsealed_by cap authority))))))

-- `Rebuilds` holds if `result` is the capability of the word, or a refusal:
--
-- - `Sealed` unless the authority is unsealed
-- - `NotCanonical` unless the word is canonical
-- - `ExceedsAuthority` unless the word's capability is unsealed and grants no more than the
--   authority
--
-- So the null word is rebuilt from any unsealed authority over the whole address space.
abbrev pub Rebuilds : Capability → ℕ → Result Capability Refusal → Type 0
Rebuilds authority word result =
    RefusedUnless (IsUnsealed authority) (result ≡ Err Sealed) (
    RefusedUnless (IsCanonical word) (result ≡ Err NotCanonical) (
    (cap : Capability) × IsWordOf cap word
    × RefusedUnless (IsUnsealed cap × GrantsNoMore cap authority) (result ≡ Err ExceedsAuthority) (result ≡ Ok cap)))
