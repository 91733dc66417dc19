-- The rules on words.
use Rattle.std.proofs.Common.{ℕ, Bool, ◌≡◌, ◌+◌, ◌-◌, ◌*◌, ◌/◌, ◌<◌, ◌^◌, Result, Ok, Err, bit_and, refl, sym, subst, inl, inr, arith}
use Rattle.std.specs.Prelude.{IfOk}
use Rattle.cc_word.specs.declared.fields.Fields.{Fields}
use Rattle.cc_word.specs.Word.{bit_of, word_of}
use Rattle.cc_word.proofs.WordLemmas.{word_of-same}
use Rattle.cc_word.specs.declared.refusal.Refusal.{Refusal}
use Rattle.cc_word.specs.declared.refusal.Refusal.TheVariants.{NotCanonical}
use Rattle.cc_bounds.specs.declared.span.Span.{Span}
use Rattle.cc_bounds.specs.Span.{IsWithin}
use Rattle.cc_bounds.specs.Decoding.{DecodesTo}
use Rattle.cc_bounds.specs.Window.{Represents}
use Rattle.cc_bounds.proofs.DecodingLemmas.{DecodesTo-same}
use Rattle.cc_bounds.proofs.SoundDecodingLemmas.{sound-decodes}
use Rattle.cc_word.specs.Permissions.{HasAll}
use Rattle.cc_cap.specs.Capability.{Capability, IsCapability, GrantsNoMore, at_address, with_flag, with_permissions}
use Rattle.cc_cap.specs.Canonical.{IsFieldsOf, IsWordOf, IsCanonical}
use Rattle.cc_cap.specs.Derivation.{SetsAddress, SetsFlag, MasksPermissions, Rebuilds}
use Rattle.cc_cap.specs.WordRules.{InWords, OnWord, OnWords, IsSubset}
use Rattle.cc_cap.proofs.CanonicalLemmas.{IsWordOf-same}

-- ---- a rule on a word

-- what the rule makes of the capability that the word has
pub word_made : (rule : Capability → Result Capability Refusal → Type 0) (word : ℕ) (cap : Capability) (made : Result Capability Refusal) (result : Result ℕ Refusal)
    → IsWordOf cap word → rule cap made → InWords made result → OnWord rule word result
word_made rule word cap made result has is in_words =
    inl ((cap, has), (cap, has, record { made = made; is_made = is; in_words = in_words }))

-- the same of two words, each with its capability
pub words_made : (rule : Capability → Capability → Result Capability Refusal → Type 0) (word authority : ℕ) (cap by : Capability) (made : Result Capability Refusal) (result : Result ℕ Refusal)
    → IsWordOf cap word → IsWordOf by authority → rule cap by made → InWords made result → OnWords rule word authority result
words_made rule word authority cap by made result has has' is in_words =
    inl ((cap, has), (cap, has, word_made (rule cap) authority by made result has' is in_words))

-- a rule on two words refuses if no capability has the authority's word
pub words_refused : (rule : Capability → Capability → Result Capability Refusal → Type 0) (word authority : ℕ) (cap : Capability) (result : Result ℕ Refusal)
    → IsWordOf cap word → (¬ IsCanonical authority) → result ≡ Err NotCanonical → OnWords rule word authority result
words_refused rule word authority cap result has not e = inl ((cap, has), (cap, has, inr (not, e)))

-- a rule with one result has it for each capability with the word
pub OnWord-same : (rule : Capability → Result Capability Refusal → Type 0)
    → ((cap : Capability) (one other : Result Capability Refusal) → rule cap one → rule cap other → one ≡ other)
    → (word : ℕ) (result : Result ℕ Refusal) → OnWord rule word result
    → (cap : Capability) → IsWordOf cap word → (made : Result Capability Refusal) → rule cap made → InWords made result
OnWord-same rule one word result (inr refused) cap has made is = absurd (refused.0 (cap, has))
OnWord-same rule one word result (inl found) cap has made is =
    let (own, own_has, makes) = found.1 in
    let same = IsWordOf-same own cap word own_has has in
    subst (λ m. InWords m result) (one cap makes.made made (subst (λ c. rule c makes.made) same makes.is_made) is) makes.in_words

pub OnWords-same : (rule : Capability → Capability → Result Capability Refusal → Type 0)
    → ((cap by : Capability) (one other : Result Capability Refusal) → rule cap by one → rule cap by other → one ≡ other)
    → (word authority : ℕ) (result : Result ℕ Refusal) → OnWords rule word authority result
    → (cap by : Capability) → IsWordOf cap word → IsWordOf by authority → (made : Result Capability Refusal) → rule cap by made → InWords made result
OnWords-same rule one word authority result (inr refused) cap by has has' made is = absurd (refused.0 (cap, has))
OnWords-same rule one word authority result (inl found) cap by has has' made is =
    let (own, own_has, on) = found.1 in
    let same = IsWordOf-same own cap word own_has has in
    OnWord-same (rule cap) (one cap) authority result (subst (λ c. OnWord (rule c) authority result) same on) by has' made is

-- ---- one field of a word replaced

-- the bits above the address
pub address_cut : (fields : Fields) (word : ℕ) → word_of fields ≡ word → word / 2 ^ 64 * 2 ^ 64 ≡ word - fields.address
address_cut fields word has = let fits = fields.address_fits in omega (arith, has, fits)

-- the address
pub address-replaced : (cap : Capability) (word address : ℕ) (made : Result Capability Refusal) (result : ℕ) → IsWordOf cap word → address < 2 ^ 64
    → SetsAddress cap address made → ((fields : Fields) → word_of fields ≡ word → result ≡ word - fields.address + address)
    → IfOk made (λ new. IsWordOf new result)
address-replaced cap word address (Err refusal) result has fits is replaced = tt
address-replaced cap word address (Ok new) result has fits (inr sealed) replaced = absurd (cc sealed.1)
address-replaced cap word address (Ok new) result has fits (inl (unsealed, inr outside)) replaced = absurd (cc outside.1)
address-replaced cap word address (Ok new) result has fits (inl (unsealed, inl (represents, is))) replaced =
    let same : at_address cap address ≡ new = cc is in
    let fields : Fields = has.fields in
    let own = has.is_fields in
    let is_cap = has.is_capability in
    let sum = replaced fields (sym has.is_word) in
    let is_word = has.is_word in
    subst (λ c. IsWordOf c result) same (record {
      is_capability = record {
        is_span = is_cap.is_span;
        sound = is_cap.sound;
        address_fits = fits;
        representable = represents;
        permissions_fit = is_cap.permissions_fit;
        is_type = is_cap.is_type;
      };
      fields = record fields { address = address; address_fits = fits };
      is_fields = record {
        permissions = own.permissions;
        reserved = own.reserved;
        flag = own.flag;
        otype = own.otype;
        bounds = own.bounds;
        address = refl;
      };
      is_word = omega (arith, sum, is_word);
    })

-- the flag
pub flag-replaced : (cap : Capability) (word : ℕ) (flag : Bool) (made : Result Capability Refusal) (result : ℕ) → IsWordOf cap word
    → SetsFlag cap flag made → ((fields : Fields) → word_of fields ≡ word → result ≡ word - bit_of fields.flag * 2 ^ 109 + bit_of flag * 2 ^ 109)
    → IfOk made (λ new. IsWordOf new result)
flag-replaced cap word flag (Err refusal) result has is replaced = tt
flag-replaced cap word flag (Ok new) result has (inr sealed) replaced = absurd (cc sealed.1)
flag-replaced cap word flag (Ok new) result has (inl (unsealed, is)) replaced =
    let same : with_flag cap flag ≡ new = cc is in
    let fields : Fields = has.fields in
    let own = has.is_fields in
    let is_cap = has.is_capability in
    let sum = replaced fields (sym has.is_word) in
    let is_word = has.is_word in
    subst (λ c. IsWordOf c result) same (record {
      is_capability = record {
        is_span = is_cap.is_span;
        sound = is_cap.sound;
        address_fits = is_cap.address_fits;
        representable = is_cap.representable;
        permissions_fit = is_cap.permissions_fit;
        is_type = is_cap.is_type;
      };
      fields = record fields { flag = flag };
      is_fields = record {
        permissions = own.permissions;
        reserved = own.reserved;
        flag = refl;
        otype = own.otype;
        bounds = own.bounds;
        address = own.address;
      };
      is_word = omega (arith, sum, is_word);
    })

-- the permissions
pub perms-replaced : (cap : Capability) (word mask perms : ℕ) (made : Result Capability Refusal) (result : ℕ) → IsWordOf cap word
    → perms ≡ bit_and cap.permissions mask → perms < 2 ^ 16
    → MasksPermissions cap mask made → ((fields : Fields) → word_of fields ≡ word → result ≡ word - fields.perms * 2 ^ 112 + perms * 2 ^ 112)
    → IfOk made (λ new. IsWordOf new result)
perms-replaced cap word mask perms (Err refusal) result has are fit is replaced = tt
perms-replaced cap word mask perms (Ok new) result has are fit (inr sealed) replaced = absurd (cc sealed.1)
perms-replaced cap word mask perms (Ok new) result has are fit (inl (unsealed, is)) replaced =
    let same : with_permissions cap (bit_and cap.permissions mask) ≡ new = cc is in
    let fields : Fields = has.fields in
    let own = has.is_fields in
    let is_cap = has.is_capability in
    let sum = replaced fields (sym has.is_word) in
    let is_word = has.is_word in
    subst (λ c. IsWordOf c result) same (record {
      is_capability = record {
        is_span = is_cap.is_span;
        sound = is_cap.sound;
        address_fits = is_cap.address_fits;
        representable = is_cap.representable;
        permissions_fit = subst (λ (n : ℕ). n < 2 ^ 16) are fit;
        is_type = is_cap.is_type;
      };
      fields = record fields { perms = perms; perms_fit = fit };
      is_fields = record {
        permissions = are;
        reserved = own.reserved;
        flag = own.flag;
        otype = own.otype;
        bounds = own.bounds;
        address = own.address;
      };
      is_word = omega (arith, sum, is_word);
    })

-- ---- rebuilding

-- what is rebuilt of a word has that word
pub Rebuilds-word : (authority : Capability) (word : ℕ) (made : Result Capability Refusal) → Rebuilds authority word made
    → IfOk made (λ cap. IsWordOf cap word)
Rebuilds-word authority word (Err refusal) is = tt
Rebuilds-word authority word (Ok cap) (inr sealed) = absurd (cc sealed.1)
Rebuilds-word authority word (Ok cap) (inl (unsealed, inr none)) = absurd (cc none.1)
Rebuilds-word authority word (Ok cap) (inl (unsealed, inl (canonical, (own, has, inr exceeds)))) = absurd (cc exceeds.1)
Rebuilds-word authority word (Ok cap) (inl (unsealed, inl (canonical, (own, has, inl (allowed, same))))) =
    let is : own ≡ cap = cc same in subst (λ c. IsWordOf c word) is has

-- ---- subsets

-- a subset, for any spans that the fields decode to
pub IsSubset-spans : (inner outer : Fields) (one other : Span) → DecodesTo inner one → DecodesTo outer other
    → IsSubset inner outer → IsWithin one other × HasAll outer.perms inner.perms
IsSubset-spans inner outer one other decodes decodes' is =
    let first = DecodesTo-same inner is.inner_span one is.inner_decodes decodes in
    let second = DecodesTo-same outer is.outer_span other is.outer_decodes decodes' in
    (subst (IsWithin one) second (subst (λ s. IsWithin s is.outer_span) first is.bytes), is.permissions)

fields-decode : (cap : Capability) (fields : Fields) → IsCapability cap → IsFieldsOf cap fields → DecodesTo fields cap.span
fields-decode cap fields is own =
    sound-decodes cap.span is.is_span is.sound fields own.bounds (subst (Represents cap.span) (sym own.address) is.representable)

-- for words of capabilities a subset is what grants no more
pub IsSubset-capabilities : (one other : Capability) (inner outer : ℕ) (first second : Fields) → IsWordOf one inner → IsWordOf other outer
    → word_of first ≡ inner → word_of second ≡ outer
    → (IsSubset first second → GrantsNoMore one other) × (GrantsNoMore one other → IsSubset first second)
IsSubset-capabilities one other inner outer first second has has' is is' =
    let first_same = word_of-same has.fields first inner (sym has.is_word) is in
    let second_same = word_of-same has'.fields second outer (sym has'.is_word) is' in
    let own = subst (IsFieldsOf one) first_same has.is_fields in
    let also = subst (IsFieldsOf other) second_same has'.is_fields in
    let decodes = fields-decode one first has.is_capability own in
    let decodes' = fields-decode other second has'.is_capability also in (
      λ subset.
          let both = IsSubset-spans first second one.span other.span decodes decodes' subset in
          record {
            bytes = both.0;
            permissions = subst (λ (n : ℕ). HasAll n one.permissions) also.permissions (subst (HasAll second.perms) own.permissions both.1);
          },
      λ grants. record {
        inner_span = one.span;
        outer_span = other.span;
        inner_decodes = decodes;
        outer_decodes = decodes';
        bytes = grants.bytes;
        permissions = subst (λ (n : ℕ). HasAll n first.perms) (sym also.permissions) (subst (HasAll other.permissions) (sym own.permissions) grants.permissions);
      },
    )
