-- The words of the root and of null, of which null alone is a subset of the other.
use Rattle.std.proofs.Common.{ℕ, true, false, ◌≡◌, ◌*◌, ◌<◌, ◌≤◌, ◌^◌, Ok, Err, refl, inl, arith}
use Rattle.cc_word.specs.declared.fields.Fields.{Fields}
use Rattle.cc_word.specs.declared.refusal.Refusal.TheVariants.{Full}
use Rattle.cc_bounds.specs.Span.{from_zero}
use Rattle.cc_bounds.specs.Decoding.{stored_exponent}
use Rattle.cc_bounds.specs.Granule.{IsExponent, first_exponent, exponent_of}
use Rattle.cc_bounds.proofs.ComputingLemmas.{exponent_of-is}
use Rattle.cc_cap.specs.Capability.{root_capability, with_permissions}
use Rattle.cc_cap.specs.Canonical.{IsWordOf}
use Rattle.cc_cap.specs.Derivation.{MasksPermissions, Rebuilds}
use Rattle.cc_cap.specs.WordRules.{OnWord, IsCanonicalSubset, AreLikeCalls, IsLikeCalls, IsMonotonicOn, IsMonotonicUnder}
use Rattle.cc_cap.proofs.BoundsLemmas.{root-IsCapability}
use Rattle.cc_cap.proofs.DerivationLemmas.{GrantsNoMore-itself}
use Rattle.cc_cap.proofs.SubsetLemmas.{subset_grants}
use Rattle.cc_cap.proofs.WordRuleLemmas.{word_made, words_made}

-- the exponent of the whole address space
whole-exponent : IsExponent (from_zero (2 ^ 64)) 52
unfolding exponent_of first_exponent
whole-exponent = exponent_of-is (from_zero (2 ^ 64)) root-IsCapability.is_span

-- the fields of the root with these permissions
whole-fields : (permissions : ℕ) → permissions < 2 ^ 16 → Fields
whole-fields permissions fit = record {
  perms = permissions;
  reserved = 0;
  flag = false;
  otype = 0x3ffff;
  ie = true;
  t = 6;
  b = 4;
  address = 0;
  perms_fit = fit;
  reserved_fits = omega arith;
  otype_fits = omega arith;
  t_fits = omega arith;
  b_fits = omega arith;
  address_fits = omega arith;
}

-- its word has the permissions at the top, and zeros below
pub whole-word : (permissions : ℕ) → permissions < 2 ^ 16 → IsWordOf (with_permissions root_capability permissions) (permissions * 2 ^ 112)
unfolding whole-fields
whole-word permissions fit = record {
  is_capability = record {
    is_span = root-IsCapability.is_span;
    sound = root-IsCapability.sound;
    address_fits = root-IsCapability.address_fits;
    representable = root-IsCapability.representable;
    permissions_fit = fit;
    is_type = root-IsCapability.is_type;
  };
  fields = whole-fields permissions fit;
  is_fields = record {
    permissions = refl;
    reserved = refl;
    flag = refl;
    otype = refl;
    bounds = record {
      exponent = 52;
      is_exponent = whole-exponent;
      internal = (λ yes. omega arith, λ long. refl);
      is_t = refl;
      is_b = refl;
    };
    address = refl;
  };
  is_word = omega arith;
}

root_word : IsWordOf root_capability (0xffff * 2 ^ 112)
root_word = whole-word 0xffff (omega arith)

null_word : IsWordOf (with_permissions root_capability 0) 0
null_word = whole-word 0 (omega arith)

pub null_made : OnWord (λ cap. MasksPermissions cap 0) (0xffff * 2 ^ 112) (Ok 0)
null_made =
    word_made (λ cap. MasksPermissions cap 0) (0xffff * 2 ^ 112) root_capability (Ok (with_permissions root_capability 0)) (Ok 0)
    root_word (inl (refl, refl)) null_word

pub root_outside : ¬ IsCanonicalSubset (0xffff * 2 ^ 112) 0
root_outside is =
    let grants = subset_grants root_capability (with_permissions root_capability 0) (0xffff * 2 ^ 112) 0 root_word null_word is in
    let none : 0 ≡ 0xffff = grants.permissions in
    absurd (omega (arith, none))

pub monotonic-breaks : ¬ IsMonotonicOn (λ cap made. made ≡ Ok root_capability) 0
monotonic-breaks monotonic =
    root_outside (monotonic (Ok (0xffff * 2 ^ 112))
    (word_made (λ cap made. made ≡ Ok root_capability) 0 (with_permissions root_capability 0) (Ok root_capability) (Ok (0xffff * 2 ^ 112))
    null_word refl root_word))

pub calls-break : ¬ IsLikeCalls (λ cap made. Unit {0}) 0
calls-break alike =
    alike (Ok 0)
    (word_made (λ cap made. Unit {0}) 0 (with_permissions root_capability 0) (Ok (with_permissions root_capability 0)) (Ok 0)
    null_word _ null_word)
    (with_permissions root_capability 0) null_word (Err Full) _

pub under-breaks : ¬ IsMonotonicUnder (λ cap by made. made ≡ Ok root_capability) 0 0
under-breaks monotonic =
    root_outside (monotonic (Ok (0xffff * 2 ^ 112))
    (words_made (λ cap by made. made ≡ Ok root_capability) 0 0 (with_permissions root_capability 0) (with_permissions root_capability 0)
    (Ok root_capability) (Ok (0xffff * 2 ^ 112)) null_word null_word refl root_word))

pub two_calls-break : ¬ AreLikeCalls (λ cap by made. Unit {0}) 0 0
two_calls-break alike =
    alike (Ok 0)
    (words_made (λ cap by made. Unit {0}) 0 0 (with_permissions root_capability 0) (with_permissions root_capability 0)
    (Ok (with_permissions root_capability 0)) (Ok 0) null_word null_word _ null_word)
    (with_permissions root_capability 0) (with_permissions root_capability 0) null_word null_word (Err Full) _

pub root-rebuilds : Rebuilds root_capability (0xffff * 2 ^ 112) (Ok root_capability)
root-rebuilds =
    inl (
      refl,
      inl ((root_capability, root_word), (root_capability, root_word, inl ((refl, GrantsNoMore-itself root_capability), refl))),
    )

pub large_exponent : (fields : Fields) × (50 ≤ stored_exponent fields)
unfolding whole-fields
large_exponent = (whole-fields 0 (omega arith), omega arith)
