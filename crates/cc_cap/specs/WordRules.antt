-- The rules of derivation on words: from a word to a word or a refusal.
use Rattle.std.specs.Prelude.{ℕ, ◌≡◌, Result, Ok, Err, IfOk}
use Rattle.cc_word.specs.Word.{word_of}
use Rattle.cc_word.specs.declared.fields.Fields.{Fields}
use Rattle.cc_word.specs.Refusal.{RefusedUnless}
use Rattle.cc_word.specs.declared.refusal.Refusal.{Refusal}
use Rattle.cc_word.specs.declared.refusal.Refusal.TheVariants.{NotCanonical}
use Rattle.cc_bounds.specs.declared.span.Span.{Span}
use Rattle.cc_bounds.specs.Span.{IsWithin}
use Rattle.cc_bounds.specs.Decoding.{DecodesTo}
use Rattle.cc_word.specs.Permissions.{HasAll}
use Rattle.cc_cap.specs.Capability.{Capability}
use Rattle.cc_cap.specs.Canonical.{IsWordOf, IsCanonical}

-- `InWords` holds if `result` is `made` in words: the word of the capability that was made, or the
-- same refusal.
abbrev pub InWords : (made : Result Capability Refusal) (result : Result ℕ Refusal) → Type 0
InWords (Ok cap) (Ok word) = IsWordOf cap word
InWords (Err refusal) (Err told) = told ≡ refusal
InWords (Ok cap) (Err told) = ⊥
InWords (Err refusal) (Ok word) = ⊥

-- `MakesWord` holds if the rule makes a capability or refuses, and `result` is this in words.
pub record MakesWord (rule : Result Capability Refusal → Type 0) (result : Result ℕ Refusal) : Type 0 where
  pub made : Result Capability Refusal
  pub is_made : rule made
  pub in_words : InWords made result

-- `OnWord` holds if no capability has the word and `result` is `NotCanonical`, or one has it and
-- `result` is the rule's result for it, in words.
abbrev pub OnWord : (rule : Capability → Result Capability Refusal → Type 0) (word : ℕ) (result : Result ℕ Refusal) → Type 0
OnWord rule word result =
    RefusedUnless (IsCanonical word) (result ≡ Err NotCanonical) (
    (cap : Capability) × IsWordOf cap word × MakesWord (rule cap) result)

-- `OnWords` holds if `word`, or else the word of the authority, is not canonical and `result` is
-- `NotCanonical`, or if `result` is the rule's result for their capabilities, in words.
abbrev pub OnWords : (rule : Capability → Capability → Result Capability Refusal → Type 0) (word authority : ℕ) (result : Result ℕ Refusal) → Type 0
OnWords rule word authority result =
    RefusedUnless (IsCanonical word) (result ≡ Err NotCanonical) (
    (cap : Capability) × IsWordOf cap word × OnWord (rule cap) authority result)

-- `IsLikeCalls` holds if, for a capability that has the word, each result of the rule on the word
-- is, in words, the rule's result for the capability.
abbrev pub IsLikeCalls : (rule : Capability → Result Capability Refusal → Type 0) (word : ℕ) → Type 0
IsLikeCalls rule word =
    (result : Result ℕ Refusal) → OnWord rule word result
    → (cap : Capability) → IsWordOf cap word → (made : Result Capability Refusal) → rule cap made → InWords made result

-- `AreLikeCalls` holds if, for capabilities that have the two words, each result of the rule on the
-- words is, in words, the rule's result for the capabilities.
abbrev pub AreLikeCalls : (rule : Capability → Capability → Result Capability Refusal → Type 0) (word authority : ℕ) → Type 0
AreLikeCalls rule word authority =
    (result : Result ℕ Refusal) → OnWords rule word authority result
    → (cap by : Capability) → IsWordOf cap word → IsWordOf by authority → (made : Result Capability Refusal) → rule cap by made → InWords made result

-- `IsSubset` holds if the span that the inner fields decode to begins and ends within that of the
-- outer, and the outer fields have each permission of the inner.
pub record IsSubset (inner outer : Fields) : Type 0 where
  pub inner_span : Span
  pub outer_span : Span
  pub inner_decodes : DecodesTo inner inner_span
  pub outer_decodes : DecodesTo outer outer_span
  pub bytes : IsWithin inner_span outer_span
  pub permissions : HasAll outer.perms inner.perms

-- `IsCanonicalSubset` holds if the inner word is canonical, and its fields are a subset of those of
-- the outer word.
pub record IsCanonicalSubset (inner outer : ℕ) : Type 0 where
  pub canonical : IsCanonical inner
  pub subset : (one other : Fields) → word_of one ≡ inner → word_of other ≡ outer → IsSubset one other

-- `IsMonotonicOn` holds if each word that the rule on a word makes is a canonical subset of `word`.
abbrev pub IsMonotonicOn : (rule : Capability → Result Capability Refusal → Type 0) (word : ℕ) → Type 0
IsMonotonicOn rule word =
    (result : Result ℕ Refusal) → OnWord rule word result → IfOk result (λ made. IsCanonicalSubset made word)

-- `IsMonotonicUnder` holds if each word that the rule on two words makes is a canonical subset of
-- `word`.
abbrev pub IsMonotonicUnder : (rule : Capability → Capability → Result Capability Refusal → Type 0) (word authority : ℕ) → Type 0
IsMonotonicUnder rule word authority =
    (result : Result ℕ Refusal) → OnWords rule word authority result → IfOk result (λ made. IsCanonicalSubset made word)
