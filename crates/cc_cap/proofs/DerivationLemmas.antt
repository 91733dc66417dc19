-- A derived capability grants no more than the one that it is derived from.
use Rattle.std.proofs.Common.{ℕ, true, false, ◌==◌, ◌∙◌, if◌then◌else◌, sym, ap, arith}
use Rattle.std.proofs.lemmas.Nat.{and_assoc}
use Rattle.std.specs.Int.Bits.{and_self}
use Rattle.std.specs.Int.RustNames.{bit_and}
use Rattle.cc_bounds.specs.declared.span.Span.{Span}
use Rattle.cc_bounds.specs.Span.{IsSpan, IsWithin}
use Rattle.cc_bounds.specs.Granule.{IsGranted, IsSound}
use Rattle.cc_bounds.proofs.SoundDecodingLemmas.{sound-IsDecoded}
use Rattle.cc_bounds.proofs.TightestLemmas.{granted-tightest}
use Rattle.cc_cap.specs.Capability.{Capability, GrantsNoMore, unsealed_permissions}
use Rattle.cc_word.specs.Permissions.{HasAll, global_permission}

-- ---- permissions

-- what a mask leaves was there
pub HasAll-masked : (permissions mask : ℕ) → HasAll permissions (bit_and permissions mask)
HasAll-masked permissions mask =
    sym (and_assoc mask permissions permissions) ∙ ap (λ (n : ℕ). bit_and n mask) (and_self permissions)

-- what unsealing leaves was there
pub HasAll-unsealed : (permissions authority : ℕ) → HasAll permissions (unsealed_permissions permissions authority)
HasAll-unsealed permissions authority =
    elim (bit_and authority global_permission == global_permission)
    as (λ has. HasAll permissions (if has then permissions else bit_and permissions 65534))
    [ true ↦ and_self permissions | false ↦ HasAll-masked permissions 65534 ]

pub ruleset permissions_stay = (HasAll-masked, HasAll-unsealed)

-- if one set has all of two, and two all of three, then one has all of three
pub HasAll-chain : (one two three : ℕ) → HasAll one two → HasAll two three → HasAll one three
HasAll-chain one two three first second =
    ap (bit_and one) (sym second) ∙ sym (and_assoc three one two) ∙ ap (λ (n : ℕ). bit_and n three) first ∙ second

-- ---- bounds

-- the granted span of a request within a sound span lies within that span
pub IsGranted-within : (request granted parent : Span) → IsSpan request → IsSpan parent → IsSound parent
    → IsWithin request parent → IsGranted request granted → IsWithin granted parent
IsGranted-within request granted parent is_request is_parent sound within is_granted =
    let word = sound-IsDecoded parent is_parent sound in
    granted-tightest request granted is_request is_granted word.0 parent word.1 within

-- ---- granting no more

pub GrantsNoMore-itself : (cap : Capability) → GrantsNoMore cap cap
GrantsNoMore-itself cap =
    record { bytes = record { from_base = omega arith; to_top = omega arith }; permissions = and_self cap.permissions }

pub GrantsNoMore-chain : (one two three : Capability) → GrantsNoMore one two → GrantsNoMore two three → GrantsNoMore one three
GrantsNoMore-chain one two three first second = record {
  bytes = record {
    from_base = omega (arith, first.bytes.from_base, second.bytes.from_base);
    to_top = omega (arith, first.bytes.to_top, second.bytes.to_top);
  };
  permissions =
      HasAll-chain three.permissions two.permissions one.permissions second.permissions first.permissions;
}
