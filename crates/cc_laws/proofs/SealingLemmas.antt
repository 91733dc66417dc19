-- A capability that is sealed and unsealed again is as before, except for GLOBAL.
use Rattle.std.proofs.Common.{ℕ, Bool, true, false, ◌≡◌, ◌==◌, Ok, refl, sym, ap, ◌∙◌, inl, inr, if◌then◌else◌, arith}
use Rattle.std.specs.Int.RustNames.{bit_and}
use Rattle.std.proofs.lemmas.Bool.Decides.{nat_tests}
use Rattle.bitflags.specs.Sets.{without}
use Rattle.cc_word.specs.ObjType.{unsealed_type}
use Rattle.cc_word.specs.Permissions.{HasAll, global_permission}
use Rattle.cc_cap.specs.Capability.{Capability, IsUnsealed, root_capability, sealed_with, unsealed_by, unsealed_permissions, with_permissions}
use Rattle.cc_cap.specs.Derivation.{Seals, Unseals}

-- the result of sealing, and that the capability was unsealed
record IsSealing (cap by made : Capability) : Type 0 where
  unsealed : IsUnsealed cap
  is : made ≡ sealed_with cap by.address

seals : (cap by made : Capability) → Seals cap by (Ok made) → IsSealing cap by made
seals cap by made (inl (unsealed, inl (may, inl (grants, inl (fits, is))))) = record { unsealed = unsealed.0; is = (let e = is in cc) }
seals cap by made (inl (unsealed, inl (may, inl (grants, inr not)))) = let e = not.1 in cc
seals cap by made (inl (unsealed, inl (may, inr not))) = let e = not.1 in cc
seals cap by made (inl (unsealed, inr not)) = let e = not.1 in cc
seals cap by made (inr not) = let e = not.1 in cc

unseals : (cap authority made : Capability) → Unseals cap authority (Ok made) → made ≡ unsealed_by cap authority
unseals cap authority made (inl (sealed, inl (free, inl (may, inl (grants, inl (same, is)))))) = let e = is in cc
unseals cap authority made (inl (sealed, inl (free, inl (may, inl (grants, inr not))))) = let e = not.1 in cc
unseals cap authority made (inl (sealed, inl (free, inl (may, inr not)))) = let e = not.1 in cc
unseals cap authority made (inl (sealed, inl (free, inr not))) = let e = not.1 in cc
unseals cap authority made (inl (sealed, inr not)) = let e = not.1 in cc
unseals cap authority made (inr not) = let e = not.1 in cc

pub sealed_again : (cap by authority sealed again : Capability) → Seals cap by (Ok sealed) → Unseals sealed authority (Ok again)
    → again ≡ with_permissions cap (unsealed_permissions cap.permissions authority.permissions)
sealed_again cap by authority sealed again first second =
    let sealing = seals cap by sealed first in
    let unsealed : cap.otype ≡ unsealed_type = sealing.unsealed in
    unseals sealed authority again second ∙ ap (λ (c : Capability). unsealed_by c authority) sealing.is
    ∙ (λ i. record (with_permissions cap (unsealed_permissions cap.permissions authority.permissions)) { otype = sym unsealed i })

global_kept : (permissions authority : ℕ) → HasAll authority global_permission → unsealed_permissions permissions authority ≡ permissions
global_kept permissions authority has =
    by_test (bit_and authority global_permission == global_permission) (grind (arith, nat_tests))
  where
    by_test : (b : Bool) → b ≡ true → (if b then permissions else without 16 permissions global_permission) ≡ permissions
    by_test true is = refl
    by_test false is = absurd (let e = is in cc)

pub sealed_again_global : (cap by authority sealed again : Capability) → Seals cap by (Ok sealed) → Unseals sealed authority (Ok again)
    → HasAll authority.permissions global_permission → again ≡ cap
sealed_again_global cap by authority sealed again first second global =
    sealed_again cap by authority sealed again first second
    ∙ ap (with_permissions cap) (global_kept cap.permissions authority.permissions global)

-- ---- the root, which may seal and unseal with type 0

pub root-seals : Seals root_capability root_capability (Ok (sealed_with root_capability 0))
root-seals =
    inl ((refl, refl), inl (refl, inl (record { from_base = omega arith; below_top = omega arith }, inl (omega arith, refl))))

pub root-unseals : Unseals (sealed_with root_capability 0) root_capability (Ok root_capability)
root-unseals =
    inl (omega arith, inl (refl, inl (refl, inl (record { from_base = omega arith; below_top = omega arith }, inl (refl, refl)))))

-- an authority with every permission except GLOBAL takes that away
pub local-unseals : Unseals (sealed_with root_capability 0) (with_permissions root_capability 0xfffe) (Ok (with_permissions root_capability 0xfffe))
local-unseals =
    inl (omega arith, inl (refl, inl (refl, inl (record { from_base = omega arith; below_top = omega arith }, inl (refl, refl)))))
