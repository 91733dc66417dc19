-- The result of a rule on words is a canonical subset of the word that it is made of.
use Rattle.std.proofs.Common.{ℕ, Bool, ◌≡◌, Result, Ok, Err, refl, sym, subst, inl, inr, arith}
use Rattle.std.specs.Prelude.{IfOk}
use Rattle.std.specs.Int.Bits.{and_self}
use Rattle.std.specs.Int.RustNames.{bit_and}
use Rattle.cc_word.specs.declared.refusal.Refusal.{Refusal}
use Rattle.cc_bounds.specs.declared.span.Span.{Span}
use Rattle.cc_bounds.specs.Span.{IsSpan, IsWithin}
use Rattle.cc_word.specs.Permissions.{HasAll}
use Rattle.cc_cap.specs.Capability.{Capability, IsCapability, GrantsNoMore, at_address, with_span, with_permissions, with_flag, sealed_with, unsealed_by}
use Rattle.cc_cap.specs.Canonical.{IsWordOf, IsCanonical}
use Rattle.cc_cap.specs.Derivation.{request_of, SetsAddress, SetsBounds, SetsExactBounds, MasksPermissions, SetsFlag, Seals, Unseals, Rebuilds}
use Rattle.cc_cap.specs.WordRules.{InWords, OnWord, OnWords, IsCanonicalSubset}
use Rattle.cc_cap.proofs.DerivationLemmas.{HasAll-masked, HasAll-unsealed, IsGranted-within, GrantsNoMore-itself, GrantsNoMore-chain}
use Rattle.cc_cap.proofs.WordRuleLemmas.{IsSubset-capabilities}

-- ---- each rule grants no more

-- a capability with the span of another, and some of its permissions, grants no more
same_span : (cap made : Capability) → made.span ≡ cap.span → HasAll cap.permissions made.permissions → GrantsNoMore made cap
same_span cap made is permissions = record { bytes = subst (λ (s : Span). IsWithin s cap.span) (sym is) (GrantsNoMore-itself cap).bytes; permissions = permissions }

pub SetsAddress-grants : (cap : Capability) (address : ℕ) (made : Capability) → IsCapability cap → SetsAddress cap address (Ok made) → GrantsNoMore made cap
SetsAddress-grants cap address made is (inr e) = absurd (cc e.1)
SetsAddress-grants cap address made is (inl (unsealed, inr e)) = absurd (cc e.1)
SetsAddress-grants cap address made is (inl (unsealed, inl (represents, same))) =
    let own : at_address cap address ≡ made = cc same in
    subst (λ c. GrantsNoMore c cap) own (same_span cap (at_address cap address) refl (and_self cap.permissions))

-- a request within the bounds of a capability is a span
request-span : (cap : Capability) (len : ℕ) → IsCapability cap → IsWithin (request_of cap len) cap.span → IsSpan (request_of cap len)
request-span cap len is within =
    record { in_order = omega arith; base_fits = is.address_fits; top_fits = omega (arith, within.to_top, is.is_span.top_fits) }

pub SetsBounds-grants : (cap : Capability) (len : ℕ) (made : Capability) → IsCapability cap → SetsBounds cap len (Ok made) → GrantsNoMore made cap
SetsBounds-grants cap len made is (inr e) = absurd (cc e.1)
SetsBounds-grants cap len made is (inl (unsealed, inr e)) = absurd (cc e.1)
SetsBounds-grants cap len made is (inl (unsealed, inl (within, (granted, is_granted, same)))) =
    let own : with_span cap granted ≡ made = cc same in
    subst (λ c. GrantsNoMore c cap) own (record {
      bytes = IsGranted-within (request_of cap len) granted cap.span (request-span cap len is within) is.is_span is.sound within is_granted;
      permissions = and_self cap.permissions;
    })

pub SetsExactBounds-grants : (cap : Capability) (len : ℕ) (made : Capability) → IsCapability cap → SetsExactBounds cap len (Ok made) → GrantsNoMore made cap
SetsExactBounds-grants cap len made is (inr e) = absurd (cc e.1)
SetsExactBounds-grants cap len made is (inl (unsealed, inr e)) = absurd (cc e.1)
SetsExactBounds-grants cap len made is (inl (unsealed, inl (within, inr e))) = absurd (cc e.1)
SetsExactBounds-grants cap len made is (inl (unsealed, inl (within, inl (exact, same)))) =
    let own : with_span cap (request_of cap len) ≡ made = cc same in
    subst (λ c. GrantsNoMore c cap) own (record { bytes = within; permissions = and_self cap.permissions })

pub MasksPermissions-grants : (cap : Capability) (mask : ℕ) (made : Capability) → IsCapability cap → MasksPermissions cap mask (Ok made) → GrantsNoMore made cap
MasksPermissions-grants cap mask made is (inr e) = absurd (cc e.1)
MasksPermissions-grants cap mask made is (inl (unsealed, same)) =
    let own : with_permissions cap (bit_and cap.permissions mask) ≡ made = cc same in
    subst (λ c. GrantsNoMore c cap) own (same_span cap (with_permissions cap (bit_and cap.permissions mask)) refl (HasAll-masked cap.permissions mask))

pub SetsFlag-grants : (cap : Capability) (flag : Bool) (made : Capability) → IsCapability cap → SetsFlag cap flag (Ok made) → GrantsNoMore made cap
SetsFlag-grants cap flag made is (inr e) = absurd (cc e.1)
SetsFlag-grants cap flag made is (inl (unsealed, same)) =
    let own : with_flag cap flag ≡ made = cc same in
    subst (λ c. GrantsNoMore c cap) own (same_span cap (with_flag cap flag) refl (and_self cap.permissions))

pub Seals-grants : (cap authority made : Capability) → IsCapability cap → Seals cap authority (Ok made) → GrantsNoMore made cap
Seals-grants cap authority made is (inr e) = absurd (cc e.1)
Seals-grants cap authority made is (inl (unsealed, inr e)) = absurd (cc e.1)
Seals-grants cap authority made is (inl (unsealed, inl (permitted, inr e))) = absurd (cc e.1)
Seals-grants cap authority made is (inl (unsealed, inl (permitted, inl (grants, inr e)))) = absurd (cc e.1)
Seals-grants cap authority made is (inl (unsealed, inl (permitted, inl (grants, inl (sealing, same))))) =
    let own : sealed_with cap authority.address ≡ made = cc same in
    subst (λ c. GrantsNoMore c cap) own (same_span cap (sealed_with cap authority.address) refl (and_self cap.permissions))

pub Unseals-grants : (cap authority made : Capability) → IsCapability cap → Unseals cap authority (Ok made) → GrantsNoMore made cap
Unseals-grants cap authority made is (inr e) = absurd (cc e.1)
Unseals-grants cap authority made is (inl (sealed, inr e)) = absurd (cc e.1)
Unseals-grants cap authority made is (inl (sealed, inl (unsealed, inr e))) = absurd (cc e.1)
Unseals-grants cap authority made is (inl (sealed, inl (unsealed, inl (permitted, inr e)))) = absurd (cc e.1)
Unseals-grants cap authority made is (inl (sealed, inl (unsealed, inl (permitted, inl (grants, inr e))))) = absurd (cc e.1)
Unseals-grants cap authority made is (inl (sealed, inl (unsealed, inl (permitted, inl (grants, inl (typed, same)))))) =
    let own : unsealed_by cap authority ≡ made = cc same in
    subst (λ c. GrantsNoMore c cap) own
    (same_span cap (unsealed_by cap authority) refl (HasAll-unsealed cap.permissions authority.permissions))

pub Rebuilds-grants : (authority : Capability) (word : ℕ) (made : Capability) → IsCapability authority → Rebuilds authority word (Ok made) → GrantsNoMore made authority
Rebuilds-grants authority word made is (inr e) = absurd (cc e.1)
Rebuilds-grants authority word made is (inl (unsealed, inr e)) = absurd (cc e.1)
Rebuilds-grants authority word made is (inl (unsealed, inl (canonical, (own, has, inr e)))) = absurd (cc e.1)
Rebuilds-grants authority word made is (inl (unsealed, inl (canonical, (own, has, inl (allowed, same))))) =
    let is : own ≡ made = cc same in subst (λ c. GrantsNoMore c authority) is allowed.1

-- ---- words

-- if a capability grants no more, its word is a canonical subset
words_subset : (cap made : Capability) (word result : ℕ) → IsWordOf cap word → IsWordOf made result → GrantsNoMore made cap
    → IsCanonicalSubset result word
words_subset cap made word result has own grants = record {
  canonical = (made, own);
  subset = λ one other is is'. (IsSubset-capabilities made cap result word one other own has is is').1 grants;
}

-- the result of a rule for a capability, in words
made_subset : (cap : Capability) (word : ℕ) (made : Result Capability Refusal) (result : Result ℕ Refusal) → IsWordOf cap word
    → ((own : Capability) → made ≡ Ok own → GrantsNoMore own cap) → InWords made result → IfOk result (λ n. IsCanonicalSubset n word)
made_subset cap word made (Err refusal) has grants in_words = tt
made_subset cap word (Ok own) (Ok result) has grants in_words = words_subset cap own word result has in_words (grants own refl)
made_subset cap word (Err refusal) (Ok result) has grants in_words = absurd in_words

-- the result of a rule on a word
pub OnWord-subset : (rule : Capability → Result Capability Refusal → Type 0)
    → ((cap made : Capability) → IsCapability cap → rule cap (Ok made) → GrantsNoMore made cap)
    → (word : ℕ) (result : Result ℕ Refusal) → OnWord rule word result → IfOk result (λ n. IsCanonicalSubset n word)
OnWord-subset rule grants word (Err refusal) on = tt
OnWord-subset rule grants word (Ok result) (inr refused) = absurd (cc refused.1)
OnWord-subset rule grants word (Ok result) (inl (canonical, (cap, has, makes))) =
    made_subset cap word makes.made (Ok result) has
    (λ own e. grants cap own has.is_capability (subst (rule cap) e makes.is_made)) makes.in_words

-- the result of a rule on two words
pub OnWords-subset : (rule : Capability → Capability → Result Capability Refusal → Type 0)
    → ((cap by made : Capability) → IsCapability cap → rule cap by (Ok made) → GrantsNoMore made cap)
    → (word authority : ℕ) (result : Result ℕ Refusal) → OnWords rule word authority result → IfOk result (λ n. IsCanonicalSubset n word)
OnWords-subset rule grants word authority (Err refusal) on = tt
OnWords-subset rule grants word authority (Ok result) (inr refused) = absurd (cc refused.1)
OnWords-subset rule grants word authority (Ok result) (inl (canonical, (cap, has, inr refused))) = absurd (cc refused.1)
OnWords-subset rule grants word authority (Ok result) (inl (canonical, (cap, has, inl (canonical', (by, has', makes))))) =
    made_subset cap word makes.made (Ok result) has
    (λ own e. grants cap by own has.is_capability (subst (rule cap by) e makes.is_made)) makes.in_words

-- ---- chains

-- if a word is a canonical subset, its capability grants no more
pub subset_grants : (one other : Capability) (inner outer : ℕ) → IsWordOf one inner → IsWordOf other outer → IsCanonicalSubset inner outer
    → GrantsNoMore one other
subset_grants one other inner outer has has' is =
    let first = sym has.is_word in
    let second = sym has'.is_word in
    (IsSubset-capabilities one other inner outer has.fields has'.fields has has' first second).0
    (is.subset has.fields has'.fields first second)

pub subset_itself : (word : ℕ) → IsCanonical word → IsCanonicalSubset word word
subset_itself word canonical = words_subset canonical.0 canonical.0 word word canonical.1 canonical.1 (GrantsNoMore-itself canonical.0)

pub subset_chain : (one two three : ℕ) → IsCanonical three → IsCanonicalSubset one two → IsCanonicalSubset two three → IsCanonicalSubset one three
subset_chain one two three canonical first second =
    let a : Capability = first.canonical.0 in
    let b : Capability = second.canonical.0 in
    let c : Capability = canonical.0 in
    words_subset c a three one canonical.1 first.canonical.1
    (GrantsNoMore-chain a b c (subset_grants a b one two first.canonical.1 second.canonical.1 first)
    (subset_grants b c two three second.canonical.1 canonical.1 second))
