-- The search of memory for capabilities, as C has it.
use Rattle.std.specs.Prelude.{ℕ, Bool, ◌≡◌, ◌≢◌, ◌⊎◌, ◌+◌, ◌*◌, ◌/◌, ◌%◌, ◌^◌, ◌<◌, ◌≤◌, List, length, min, if◌then◌else◌, IsTrue}
use Rattle.std.specs.List.{slice_index_or}
use Rattle.cc_word.specs.declared.fields.Fields.{Fields}
use Rattle.cc_word.specs.ObjType.{sentry_type}
use Rattle.cc_word.specs.Permissions.{HasAll}
use Rattle.cc_word.specs.Word.{word_of}
use Rattle.cc_cap.specs.Capability.{Capability, IsCapability, IsSealed, IsUnsealed, Grants, sealed_with}
use Rattle.cc_cap.specs.Canonical.{IsFieldsOf, IsWordOf}
use Rattle.cc_ffi.specs.declared.structs.Query.{Query}
use Rattle.cc_ffi.specs.Memory.{word_in_memory}

-- IsSentryOf holds if the word is a sentry of the capability: the capability is unsealed, and the
-- word has its fields, except that the type is a sentry's.
pub record IsSentryOf (cap : Capability) (word : ℕ) : Type 0 where
  pub is_capability : IsCapability cap
  pub unsealed : IsUnsealed cap
  pub fields : Fields
  pub is_fields : IsFieldsOf (sealed_with cap sentry_type) fields
  pub is_word : word ≡ word_of fields

-- IsWordFor holds if the word can have a tag and grants what the capability grants, and if the query
-- wants its type: the word is the capability's, or it is a sentry of the capability.
abbrev pub IsWordFor : Query → Capability → (word : ℕ) → Type 0
IsWordFor query cap word =
    (IsWordOf cap word × (IsSealed cap → IsTrue query.sealed)) ⊎ (IsSentryOf cap word × IsTrue query.sentries)

-- GrantsWanted holds if the capability grants what the query wants: all permissions of a mask, at
-- least one permission, and the byte at an address.
pub record GrantsWanted (query : Query) (cap : Capability) : Type 0 where
  pub permissions : HasAll cap.permissions query.perms
  pub some_permission : IsTrue query.needs_permission → cap.permissions ≢ 0
  pub address : IsTrue query.needs_address → Grants cap query.address

-- IsWanted holds if the query wants the word.
pub record IsWanted (query : Query) (word : ℕ) : Type 0 where
  pub cap : Capability
  pub taggable : IsWordFor query cap word
  pub grants : GrantsWanted query cap

-- HasTag holds if the bit at a position is set. A byte has the bits of eight positions, the first in
-- its lowest bit.
abbrev pub HasTag : (tag_bits : List ℕ) (i : ℕ) → Type 0
HasTag tag_bits i = slice_index_or tag_bits (i / 8) 0 / 2 ^ (i % 8) % 2 ≡ 1

-- IsWantedAt holds if the query wants the word at a position of memory. If it needs a tag, the word
-- has one.
pub record IsWantedAt (query : Query) (big_endian : Bool) (memory : List (List ℕ)) (tag_bits : List ℕ) (i : ℕ) : Type 0 where
  pub tagged : IsTrue query.needs_tag → HasTag tag_bits i
  pub wanted : IsWanted query (word_in_memory big_endian memory i)

-- The number of words that a search can examine: all of memory, or if the query needs a tag, those of
-- them that have a bit.
abbrev pub searchable : Query → (memory : List (List ℕ)) (tag_bits : List ℕ) → ℕ
searchable query memory tag_bits =
    if query.needs_tag then min (length memory) (8 * length tag_bits) else length memory

-- The number at an index, or 0 past the end.
abbrev pub position_at : (positions : List ℕ) (k : ℕ) → ℕ
position_at positions k = slice_index_or positions k 0

-- IsListed holds if the first `count` numbers are the positions below `next` with a property, all of
-- them, in increasing order.
pub record IsListed (P : ℕ → Type 0) (positions : List ℕ) (count next : ℕ) : Type 0 where
  pub each : (k : ℕ) → k < count → P (position_at positions k) × (position_at positions k < next)
  pub increasing : (j k : ℕ) → j < k → k < count → position_at positions j < position_at positions k
  pub all : (i : ℕ) → i < next → P i → (k : ℕ) × (k < count) × (position_at positions k ≡ i)

-- EndsSearch holds if a search for `room` positions among `words` words ends before the word `next`,
-- with `count` positions: after the word whose position was the last to fit, or after the last word.
-- With no position to fill it ends before the first word.
pub record EndsSearch (positions : List ℕ) (room words count next : ℕ) : Type 0 where
  pub fits : count ≤ room
  pub within : next ≤ words
  pub last : count < room → next ≡ words
  pub full : (k : ℕ) → k + 1 ≡ room → count ≡ room → next ≡ position_at positions k + 1
  pub none : room ≡ 0 → next ≡ 0
