-- The words that a search wants, by their fields, and the positions that it lists.
use Rattle.std.proofs.Common.{ℕ, List, ◌≡◌, ◌∙◌, ◌≢◌, ◌+◌, ◌<◌, ◌≤◌, refl, ap, sym, subst, inl, inr, arith, below_more, get_or, get_or-set_other, get_or-set_same, length, set}
use Rattle.std.specs.Prelude.{◌↔◌, IsTrue}
use Rattle.std.specs.List.{SameFrom}
use Rattle.std.proofs.lemmas.List.{length-set}
use Rattle.cc_word.specs.declared.fields.Fields.{Fields}
use Rattle.cc_word.specs.ObjType.{IsObjType, last_sealing_type, sentry_type, unsealed_type}
use Rattle.cc_word.specs.Permissions.{HasAll}
use Rattle.cc_word.specs.Word.{word_of}
use Rattle.cc_word.proofs.WordLemmas.{word_of-same}
use Rattle.cc_bounds.specs.declared.span.Span.{Span}
use Rattle.cc_bounds.specs.Span.{HasByte}
use Rattle.cc_bounds.specs.Encoding.{HasBoundsFields}
use Rattle.cc_bounds.specs.Decoding.{DecodesTo}
use Rattle.cc_bounds.specs.Window.{Represents}
use Rattle.cc_bounds.proofs.SoundDecodingLemmas.{sound-decodes}
use Rattle.cc_cap.specs.Capability.{Capability, IsCapability, sealed_with}
use Rattle.cc_cap.specs.Canonical.{IsCanonical, IsFieldsOf, IsWordOf}
use Rattle.cc_ffi.specs.declared.structs.Query.{Query}
use Rattle.cc_ffi.specs.Search.{IsListed, IsSentryOf, IsWordFor, IsWanted, position_at}
use Rattle.cc_ffi.proofs.RuleLemmas.{own_fields}

-- ---- types

-- a sentry's word has the fields of its capability with a sentry's type
sentry_fields : (cap : Capability) (word : ℕ) (fields : Fields) → IsSentryOf cap word → word_of fields ≡ word
    → IsFieldsOf (sealed_with cap sentry_type) fields
sentry_fields cap word fields s is =
    subst (IsFieldsOf (sealed_with cap sentry_type)) (word_of-same s.fields fields word (sym s.is_word) is) s.is_fields

-- no capability has the type of a sentry
no_sentry : (otype : ℕ) → IsObjType otype → otype ≢ sentry_type
no_sentry otype (inl low) same = absurd (omega (arith, low, same))
no_sentry otype (inr high) same = absurd (omega (arith, high, same))

-- the fields with the type of an unsealed capability
abbrev pub unsealed_fields : Fields → Fields
unsealed_fields fields = record fields { otype = unsealed_type; otype_fits = omega arith }

-- a taggable word with a sentry's type is a wanted sentry
pub sentry_kind : (query : Query) (word : ℕ) (fields : Fields) → word_of fields ≡ word → fields.otype ≡ sentry_type
    → (cap : Capability) → IsWordFor query cap word → IsSentryOf cap word × IsTrue query.sentries
sentry_kind query word fields is sentry cap (inl has) =
    absurd (no_sentry cap.otype has.0.is_capability.is_type (sym (own_fields cap word fields has.0 is).otype ∙ sentry))
sentry_kind query word fields is sentry cap (inr s) = s

-- a sentry is taggable exactly if it is wanted, and canonical with the type unsealed
pub sentry_taggable : (query : Query) (word : ℕ) (fields : Fields) → word_of fields ≡ word → fields.otype ≡ sentry_type
    → ((cap : Capability) × IsWordFor query cap word) ↔ (IsTrue query.sentries × IsCanonical (word_of (unsealed_fields fields)))
sentry_taggable query word fields is sentry = (
  λ taggable.
      let kind = sentry_kind query word fields is sentry taggable.0 taggable.1 in
      let has = sentry_fields taggable.0 word fields kind.0 is in (
        kind.1,
        (
          taggable.0,
          record {
            is_capability = kind.0.is_capability;
            fields = unsealed_fields fields;
            is_fields = record {
              permissions = has.permissions;
              reserved = has.reserved;
              flag = has.flag;
              otype = sym kind.0.unsealed;
              bounds = has.bounds;
              address = has.address;
            };
            is_word = refl;
          },
        ),
      ),
  λ both.
      let own = own_fields both.1.0 (word_of (unsealed_fields fields)) (unsealed_fields fields) both.1.1 refl in (
        both.1.0,
        inr (
          record {
            is_capability = both.1.1.is_capability;
            unsealed = sym own.otype;
            fields = fields;
            is_fields = record {
              permissions = own.permissions;
              reserved = own.reserved;
              flag = own.flag;
              otype = sentry;
              bounds = own.bounds;
              address = own.address;
            };
            is_word = sym is;
          },
          both.0,
        ),
      ),
)

-- a word of another type is taggable exactly if it is canonical, and wanted if it is sealed
other_made : (query : Query) (word : ℕ) (fields : Fields) → word_of fields ≡ word → fields.otype ≢ sentry_type
    → (cap : Capability) → IsWordFor query cap word → IsCanonical word × (fields.otype ≢ unsealed_type → IsTrue query.sealed)
other_made query word fields is plain cap (inl has) =
    let own = own_fields cap word fields has.0 is in (
      (cap, has.0),
      λ sealed. has.1 (sealed_type cap.otype has.0.is_capability.is_type (λ same. sealed (own.otype ∙ same))),
    )
  where
    sealed_type : (otype : ℕ) → IsObjType otype → otype ≢ unsealed_type → otype ≤ last_sealing_type
    sealed_type otype (inl low) other = low
    sealed_type otype (inr high) other = absurd (other high)
other_made query word fields is plain cap (inr s) = absurd (plain (sentry_fields cap word fields s.0 is).otype)

pub other_taggable : (query : Query) (word : ℕ) (fields : Fields) → word_of fields ≡ word → fields.otype ≢ sentry_type
    → ((cap : Capability) × IsWordFor query cap word) ↔ (IsCanonical word × (fields.otype ≢ unsealed_type → IsTrue query.sealed))
other_taggable query word fields is plain = (
  λ taggable. other_made query word fields is plain taggable.0 taggable.1,
  λ both.
      let cap : Capability = both.0.0 in
      let has : IsWordOf cap word = both.0.1 in
      let own : IsFieldsOf cap fields = own_fields cap word fields has is in
      (cap, inl (has, λ sealed. both.1 (λ same. let otype : cap.otype ≡ unsealed_type = sym own.otype ∙ same in absurd (omega (arith, sealed, otype))))),
)

-- ---- grants

-- the permissions and the bounds of a capability
record IsOf (cap : Capability) (fields : Fields) : Type 0 where
  permissions : fields.perms ≡ cap.permissions
  decodes : DecodesTo fields cap.span

stored : (cap : Capability) (fields : Fields) → IsCapability cap → fields.perms ≡ cap.permissions → fields.address ≡ cap.address
    → HasBoundsFields cap.span fields.ie fields.t fields.b → IsOf cap fields
stored cap fields is permissions address bounds = record {
  permissions = permissions;
  decodes = sound-decodes cap.span is.is_span is.sound fields bounds (subst (Represents cap.span) (sym address) is.representable);
}

taggable_fields : (query : Query) (cap : Capability) (word : ℕ) (fields : Fields) → word_of fields ≡ word → IsWordFor query cap word
    → IsOf cap fields
taggable_fields query cap word fields is (inl has) =
    let own = own_fields cap word fields has.0 is in
    stored cap fields has.0.is_capability own.permissions own.address own.bounds
taggable_fields query cap word fields is (inr s) =
    let own = sentry_fields cap word fields s.0 is in
    stored cap fields s.0.is_capability own.permissions own.address own.bounds

-- the permissions of a wanted word
pub wanted_perms : (query : Query) (word : ℕ) (fields : Fields) → word_of fields ≡ word → IsWanted query word
    → HasAll fields.perms query.perms × (IsTrue query.needs_permission → fields.perms ≢ 0)
wanted_perms query word fields is w =
    let of = taggable_fields query w.cap word fields is w.taggable in (
      subst (λ (n : ℕ). HasAll n query.perms) (sym of.permissions) w.grants.permissions,
      λ needs none. w.grants.some_permission needs (sym of.permissions ∙ none),
    )

-- a taggable word with the permissions is wanted if its bounds are
pub wanted_if : (query : Query) (word : ℕ) (fields : Fields) → word_of fields ≡ word
    → HasAll fields.perms query.perms × (IsTrue query.needs_permission → fields.perms ≢ 0)
    → ((cap : Capability) × IsWordFor query cap word) → (answer : Type 0)
    → ((span : Span) → DecodesTo fields span → answer ↔ (IsTrue query.needs_address → HasByte span query.address)) → answer ↔ IsWanted query word
wanted_if query word fields is perms taggable answer holds = (
  λ yes.
      let cap : Capability = taggable.0 in
      let of : IsOf cap fields = taggable_fields query cap word fields is taggable.1 in
      record {
        cap = cap;
        taggable = taggable.1;
        grants = record {
          permissions = subst (λ (n : ℕ). HasAll n query.perms) of.permissions perms.0;
          some_permission = λ needs none. perms.1 needs (of.permissions ∙ none);
          address = (holds cap.span of.decodes).0 yes;
        };
      },
  λ w. (holds w.cap.span (taggable_fields query w.cap word fields is w.taggable).decodes).1 w.grants.address,
)

-- ---- positions

-- one more position
pub listed_more : (P : ℕ → Type 0) (positions : List ℕ) (count i : ℕ) → count < length positions → IsListed P positions count i → P i
    → IsListed P (set positions count i) (count + 1) (i + 1)
listed_more P positions count i fits listed here = record {
  each =
      below_more (λ (k : ℕ). P (get_or (set positions count i) k 0) × (get_or (set positions count i) k 0 < i + 1)) count
      (λ k h.
      let ne : k ≢ count = omega arith in
      let before = listed.each k h in
      rw get_or-set_other (before.0, omega (arith, before.1)))
      (rw get_or-set_same (here, omega arith));
  increasing =
      λ j k lt below.
      below_more (λ (k : ℕ). j < k → get_or (set positions count i) j 0 < get_or (set positions count i) k 0) count
      (λ k h lt.
      let ne : k ≢ count = omega arith in
      let also : j ≢ count = omega arith in
      let before = listed.increasing j k lt h in
      subst (λ (n : ℕ). n < get_or (set positions count i) k 0) (sym (get_or-set_other positions count j i 0 also))
      (subst (λ (n : ℕ). get_or positions j 0 < n) (sym (get_or-set_other positions count k i 0 ne)) before))
      (λ lt.
      let also : j ≢ count = omega arith in
      let before = (listed.each j lt).1 in
      subst (λ (n : ℕ). n < get_or (set positions count i) count 0) (sym (get_or-set_other positions count j i 0 also))
      (subst (λ (n : ℕ). get_or positions j 0 < n) (sym (get_or-set_same positions count i 0 fits)) before))
      k below lt;
  all =
      λ x below p.
      below_more (λ (x : ℕ). P x → (k : ℕ) × (k < count + 1) × (get_or (set positions count i) k 0 ≡ x)) i
      (λ x h p.
      let found = listed.all x h p in
      let below : found.0 < count = found.1 in
      let ne : found.0 ≢ count = omega (arith, below) in
      (found.0, omega (arith, below), rw get_or-set_other found.2))
      (λ p. (count, omega arith, rw get_or-set_same refl))
      x below p;
}

-- one more word that has no position
pub listed_past : (P : ℕ → Type 0) (positions : List ℕ) (count i : ℕ) → IsListed P positions count i → ¬ P i
    → IsListed P positions count (i + 1)
listed_past P positions count i listed not_here = record {
  each = λ k h. let before = listed.each k h in (before.0, omega (arith, before.1));
  increasing = listed.increasing;
  all =
      λ x below p.
      below_more (λ (x : ℕ). P x → (k : ℕ) × (k < count) × (position_at positions k ≡ x)) i (λ x h p. listed.all x h p)
      (λ p. absurd (not_here p)) x below p;
}

-- ---- the search before word i

pub record Searched (P : ℕ → Type 0) (first positions : List ℕ) (end count i : ℕ) : Type 0 where
  pub within : i ≤ end
  pub fits : count ≤ length positions
  pub listed : IsListed P positions count i
  pub full : (k : ℕ) → k + 1 ≡ length positions → count ≡ length positions → i ≡ position_at positions k + 1
  pub none : length positions ≡ 0 → i ≡ 0
  pub rest : SameFrom first positions count

-- after a word that is wanted
pub searched_more : (P : ℕ → Type 0) (first positions now : List ℕ) (end count i next : ℕ) → i < end → count < length positions
    → Searched P first positions end count i → P i → now ≡ set positions count i → next ≡ count + 1 → Searched P first now end next (i + 1)
searched_more P first positions now end count i next below fits kept here is_now is_next =
    subst (λ (now : List ℕ). Searched P first now end next (i + 1)) (sym is_now)
    (subst (λ (next : ℕ). Searched P first (set positions count i) end next (i + 1)) (sym is_next) more)
  where
    same_length : length (set positions count i) ≡ length positions
    same_length = length-set positions count i

    more : Searched P first (set positions count i) end (count + 1) (i + 1)
    more = record {
      within = omega (arith, below);
      fits = omega (arith, same_length, fits);
      listed = listed_more P positions count i fits kept.listed here;
      full =
          λ k last all.
          let same : k ≡ count = omega (arith, last, all) in
          subst (λ (k : ℕ). i + 1 ≡ get_or (set positions count i) k 0 + 1) (sym same)
          (ap (λ (n : ℕ). n + 1) (sym (get_or-set_same positions count i 0 fits)));
      none = λ empty. absurd (omega (arith, same_length, fits, empty));
      rest = λ k d from. let ne : k ≢ count = omega (arith, from) in get_or-set_other positions count k i d ne ∙ kept.rest k d (omega (arith, from));
    }

-- after any other word
pub searched_past : (P : ℕ → Type 0) (first positions now : List ℕ) (end count i next : ℕ) → i < end → count < length positions
    → Searched P first positions end count i → ¬ P i → now ≡ positions → next ≡ count → Searched P first now end next (i + 1)
searched_past P first positions now end count i next below fits kept not_here is_now is_next =
    subst (λ (now : List ℕ). Searched P first now end next (i + 1)) (sym is_now)
    (subst (λ (next : ℕ). Searched P first positions end next (i + 1)) (sym is_next) past)
  where
    past : Searched P first positions end count (i + 1)
    past = record {
      within = omega (arith, below);
      fits = kept.fits;
      listed = listed_past P positions count i kept.listed not_here;
      full = λ k last all. absurd (omega (arith, fits, all));
      none = λ empty. absurd (omega (arith, fits, empty));
      rest = kept.rest;
    }
