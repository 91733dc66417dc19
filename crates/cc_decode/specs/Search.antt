-- The words that a search finds.
use Rattle.std.specs.Prelude.{◌≢◌, ◌≡◌, ◌⊎◌, ◌-◌, ⊤, ℕ, Option, None, Some, IfSome, IsTrue}
use Rattle.cc_word.specs.Word.{bit_of, turned, layout_of, word_of}
use Rattle.cc_word.specs.ObjType.{sentry_type, unsealed_type}
use Rattle.cc_word.specs.Permissions.{bits_of, HasAll}
use Rattle.cc_word.specs.declared.fields.Fields.{Fields}
use Rattle.cc_bounds.specs.declared.span.Span.{Span}
use Rattle.cc_bounds.specs.Decoding.{DecodesTo}
use Rattle.cc_bounds.specs.Span.{HasByte}
use Rattle.cc_cap.specs.Canonical.{IsCanonical}
use Rattle.cc_decode.specs.declared.options.Search.{Search}

-- The word of the fields with the type of an unsealed capability, which is stored as zeros.
abbrev pub unsealed_word : Fields → ℕ
unsealed_word fields =
    layout_of fields.perms fields.reserved (bit_of fields.flag) 0 (1 - bit_of fields.ie)
    (turned 2 (turned 1 fields.t)) (turned 2 fields.b) fields.address

-- IsSentry holds if the type is a sentry's, and the word is canonical once it is unsealed.
abbrev pub IsSentry : Fields → Type 0
IsSentry fields = (fields.otype ≡ sentry_type) × IsCanonical (unsealed_word fields)

-- IsTaggable holds if the word of the fields can have a tag: it is canonical, or a sentry.
abbrev pub IsTaggable : Fields → Type 0
IsTaggable fields = IsCanonical (word_of fields) ⊎ IsSentry fields

-- GrantsSearch holds if there are all permissions of the search, and at least one if it needs one, the
-- type is one that the search finds, and the bounds have the byte at the address of the search, if there
-- is one.
pub record GrantsSearch (search : Search) (fields : Fields) (bounds : Span) : Type 0 where
  pub some : IsTrue search.needs_permission → fields.perms ≢ 0
  pub all : HasAll fields.perms (bits_of search.perms)
  pub kind : IsTrue search.unsealed → fields.otype ≡ unsealed_type
  pub holds : IfSome search.holds (λ address. HasByte bounds address)

-- IsFound holds if the search finds the word: it could be a capability that grants what is searched
-- for.
pub record IsFound (search : Search) (word : ℕ) : Type 0 where
  pub fields : Fields
  pub bounds : Span
  pub of_word : word_of fields ≡ word
  pub decoded : DecodesTo fields bounds
  pub taggable : IsTaggable fields
  pub grants : GrantsSearch search fields bounds

-- IsListedWord holds if the word is listed: every word without a search, and otherwise those found.
abbrev pub IsListedWord : Option Search → (word : ℕ) → Type 0
IsListedWord None word = ⊤
IsListedWord (Some search) word = IsFound search word
