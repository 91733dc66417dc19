-- The word that a rule returns to C is a canonical subset, and what setting bounds stores in it.
use Rattle.std.proofs.Common.{ℕ, ◌≡◌, ◌∙◌, ◌<◌, Result, Ok, Err, refl, sym, ap, subst, inl, inr, arith}
use Rattle.std.specs.Prelude.{IfOk}
use Rattle.cc_word.specs.declared.fields.Fields.{Fields}
use Rattle.cc_word.specs.Word.{word_of}
use Rattle.cc_word.specs.Refusal.{code_of}
use Rattle.cc_word.specs.declared.refusal.Refusal.{Refusal}
use Rattle.cc_word.specs.declared.refusal.Refusal.TheVariants.{Syntax, Unfinished, TooLong, OutOfRange, NoSlot, Revoked, Sealed, Unsealed, OutOfBounds, Inexact, Unrepresentable, MissingPermission}
use Rattle.cc_word.specs.declared.refusal.Refusal.TheVariants.{ReservedType, TypeMismatch, NotCanonical, ExceedsAuthority, NoPool, PoolAlreadySet, ZeroSize, NoRoom, NoObject, Full}
use Rattle.cc_word.proofs.WordLemmas.{word_of-same}
use Rattle.cc_bounds.specs.declared.span.Span.{Span}
use Rattle.cc_bounds.specs.Span.{IsSpan, IsWithin, span_from}
use Rattle.cc_bounds.specs.Granule.{IsGranted}
use Rattle.cc_bounds.specs.Window.{Represents}
use Rattle.cc_bounds.proofs.SoundDecodingLemmas.{sound-decodes}
use Rattle.cc_bounds.proofs.TightestLemmas.{granted-tight}
use Rattle.cc_cap.specs.Capability.{Capability, IsCapability, GrantsNoMore, with_span}
use Rattle.cc_cap.specs.Canonical.{IsFieldsOf, IsWordOf}
use Rattle.cc_cap.specs.Derivation.{request_of, SetsBounds}
use Rattle.cc_cap.specs.WordRules.{InWords, OnWord, OnWords, IsCanonicalSubset}
use Rattle.cc_cap.proofs.SubsetLemmas.{OnWord-subset, OnWords-subset, SetsBounds-grants}
use Rattle.cc_ffi.specs.declared.structs.MadeWord.{MadeWord}
use Rattle.cc_ffi.specs.Numbers.{number_of_halves}
use Rattle.cc_ffi.specs.Words.{OfFields}
use Rattle.cc_ffi.specs.Rules.{IsMadeWord, GivesResult, StoresRequest}

-- ---- results without a refusal

-- the code of a refusal is not 0
code-positive : (refusal : Refusal) → 0 < code_of refusal
code-positive Syntax = omega arith
code-positive Unfinished = omega arith
code-positive TooLong = omega arith
code-positive OutOfRange = omega arith
code-positive NoSlot = omega arith
code-positive Revoked = omega arith
code-positive Sealed = omega arith
code-positive Unsealed = omega arith
code-positive OutOfBounds = omega arith
code-positive Inexact = omega arith
code-positive Unrepresentable = omega arith
code-positive MissingPermission = omega arith
code-positive ReservedType = omega arith
code-positive TypeMismatch = omega arith
code-positive NotCanonical = omega arith
code-positive ExceedsAuthority = omega arith
code-positive NoPool = omega arith
code-positive PoolAlreadySet = omega arith
code-positive ZeroSize = omega arith
code-positive NoRoom = omega arith
code-positive NoObject = omega arith
code-positive Full = omega arith

-- C's word has the property of the word that was made
told_word : (P : ℕ → Type 0) (answer : Result ℕ Refusal) (told : MadeWord) → IsMadeWord answer told → IfOk answer P → told.refusal ≡ 0
    → P (number_of_halves told.high told.low)
told_word P (Ok word) told is made none = subst P (sym is.0) made
told_word P (Err refusal) told is made none =
    let code = is.1 in
    let positive = code-positive refusal in
    absurd (omega (arith, code, none, positive))

-- ---- subsets

-- the result of a rule on a word
pub told_subset : (rule : Capability → Result Capability Refusal → Type 0)
    → ((cap made : Capability) → IsCapability cap → rule cap (Ok made) → GrantsNoMore made cap)
    → (word : ℕ) (told : MadeWord) → GivesResult (OnWord rule word) told → told.refusal ≡ 0
    → IsCanonicalSubset (number_of_halves told.high told.low) word
told_subset rule grants word told is =
    told_word (λ (n : ℕ). IsCanonicalSubset n word) is.answer told is.is_made (OnWord-subset rule grants word is.answer is.is_answer)

-- the result of a rule on a word and the word of an authority
pub told_subset_under : (rule : Capability → Capability → Result Capability Refusal → Type 0)
    → ((cap by made : Capability) → IsCapability cap → rule cap by (Ok made) → GrantsNoMore made cap)
    → (word authority : ℕ) (told : MadeWord) → GivesResult (OnWords rule word authority) told → told.refusal ≡ 0
    → IsCanonicalSubset (number_of_halves told.high told.low) word
told_subset_under rule grants word authority told is =
    told_word (λ (n : ℕ). IsCanonicalSubset n word) is.answer told is.is_made (OnWords-subset rule grants word authority is.answer is.is_answer)

-- ---- bounds

-- a capability's word has the fields of the capability
pub own_fields : (cap : Capability) (word : ℕ) (fields : Fields) → IsWordOf cap word → word_of fields ≡ word → IsFieldsOf cap fields
own_fields cap word fields has is = subst (IsFieldsOf cap) (word_of-same has.fields fields word (sym has.is_word) is) has.is_fields

-- what the fields of the word that was made store, over one capability
stores_request : (cap : Capability) (len : ℕ) (granted : Span) (word result : ℕ) (fields made : Fields) → IsWordOf cap word
    → IsWordOf (with_span cap granted) result → IsWithin (request_of cap len) cap.span → IsGranted (request_of cap len) granted
    → GrantsNoMore (with_span cap granted) cap → word_of fields ≡ word → word_of made ≡ result → StoresRequest fields len made
stores_request cap len granted word result fields made has has' within is_granted grants is is' =
    let own = own_fields cap word fields has is in
    let new = own_fields (with_span cap granted) result made has' is' in
    let old_capability = has.is_capability in
    let new_capability = has'.is_capability in
    let request : request_of cap len ≡ span_from fields.address len = ap (λ (n : ℕ). span_from n len) (sym own.address) in
    let is_span : IsSpan (request_of cap len) =
    record { in_order = omega arith; base_fits = old_capability.address_fits; top_fits = omega (arith, within.to_top, old_capability.is_span.top_fits) } in
    record {
      own = cap.span;
      granted = granted;
      decodes =
          sound-decodes cap.span old_capability.is_span old_capability.sound fields own.bounds
          (subst (Represents cap.span) (sym own.address) old_capability.representable);
      is_granted = subst (λ (s : Span). IsGranted s granted) request is_granted;
      covers = subst (λ (s : Span). IsWithin s granted) request (granted-tight (request_of cap len) granted is_span is_granted).covers;
      within = grants.bytes;
      stores = record {
        is_span = new_capability.is_span;
        sound = new_capability.sound;
        bounds_fields = new.bounds;
        representable = subst (Represents granted) (sym new.address) new_capability.representable;
      };
      address = new.address ∙ sym own.address;
      permissions = new.permissions ∙ sym own.permissions;
      reserved = new.reserved ∙ sym own.reserved;
      flag = new.flag ∙ sym own.flag;
      otype = new.otype ∙ sym own.otype;
    }

-- over what setting bounds makes
sets_request : (cap : Capability) (len : ℕ) (made : Capability) (word result : ℕ) (fields new : Fields) → IsWordOf cap word
    → IsWordOf made result → SetsBounds cap len (Ok made) → word_of fields ≡ word → word_of new ≡ result → StoresRequest fields len new
sets_request cap len made word result fields new has has' (inr e) = absurd (cc e.1)
sets_request cap len made word result fields new has has' (inl (unsealed, inr e)) = absurd (cc e.1)
sets_request cap len made word result fields new has has' (inl (unsealed, inl (within, (granted, is_granted, same)))) =
    let own : made ≡ with_span cap granted = sym (cc same) in
    stores_request cap len granted word result fields new has (subst (λ c. IsWordOf c result) own has') within is_granted
    (SetsBounds-grants cap len (with_span cap granted) has.is_capability (inl (unsealed, inl (within, (granted, is_granted, refl)))))

-- over the result in words
sets_in_words : (cap : Capability) (len : ℕ) (made : Result Capability Refusal) (word : ℕ) (result : Result ℕ Refusal) → IsWordOf cap word
    → SetsBounds cap len made → InWords made result
    → IfOk result (λ n. OfFields word (λ fields. OfFields n (λ new. StoresRequest fields len new)))
sets_in_words cap len made word (Err refusal) has is in_words = tt
sets_in_words cap len (Ok made) word (Ok result) has is in_words =
    λ fields own new own'. sets_request cap len made word result fields new has in_words is own own'
sets_in_words cap len (Err refusal) word (Ok result) has is in_words = absurd in_words

on_word : (len word : ℕ) (result : Result ℕ Refusal) → OnWord (λ cap. SetsBounds cap len) word result
    → IfOk result (λ n. OfFields word (λ fields. OfFields n (λ new. StoresRequest fields len new)))
on_word len word (Err refusal) on = tt
on_word len word (Ok result) (inr refused) = absurd (cc refused.1)
on_word len word (Ok result) (inl (canonical, (cap, has, makes))) =
    sets_in_words cap len makes.made word (Ok result) has makes.is_made makes.in_words

pub told_stores : (len word : ℕ) (told : MadeWord) → GivesResult (OnWord (λ cap. SetsBounds cap len) word) told → told.refusal ≡ 0
    → OfFields word (λ fields. OfFields (number_of_halves told.high told.low) (λ new. StoresRequest fields len new))
told_stores len word told is =
    told_word (λ (n : ℕ). OfFields word (λ fields. OfFields n (λ new. StoresRequest fields len new))) is.answer told is.is_made
    (on_word len word is.answer is.is_answer)
