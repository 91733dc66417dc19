-- Each rule of derivation has a result, and what it makes is a capability that can exist.
use Rattle.std.proofs.Common.{ℕ, Bool, true, false, ◌≡◌, ◌+◌, ◌%◌, ◌==◌, ◌^◌, ◌<◌, ◌≤◌, Result, Ok, Err, if◌then◌else◌, refl, sym, subst, inl, inr, arith}
use Rattle.std.proofs.Math.Decide.{map_dec, ℕ_discrete, dec_le, dec_lt}
use Rattle.std.proofs.lemmas.Nat.{and_le_l}
use Rattle.std.specs.Int.RustNames.{bit_and}
use Rattle.cc_word.specs.declared.fields.Fields.{Fields}
use Rattle.cc_word.specs.Refusal.{RefusedUnless}
use Rattle.cc_word.specs.declared.refusal.Refusal.{Refusal}
use Rattle.cc_word.specs.declared.refusal.Refusal.TheVariants.{ExceedsAuthority}
use Rattle.cc_word.specs.Word.{word_of}
use Rattle.cc_word.proofs.WordLemmas.{word_of-same}
use Rattle.cc_word.proofs.UnpackLemmas.{of_word, word_of-fits}
use Rattle.cc_bounds.specs.declared.span.Span.{Span}
use Rattle.cc_bounds.specs.Span.{IsSpan, IsWithin}
use Rattle.cc_bounds.specs.Granule.{IsGranted, granted_span}
use Rattle.cc_bounds.specs.Window.{Represents}
use Rattle.cc_bounds.specs.Encoding.{ie_of, t_of, b_of}
use Rattle.cc_bounds.proofs.ComputingLemmas.{bounds_fields-is, granted_span-is}
use Rattle.cc_bounds.proofs.EncodingLemmas.{sound-fit}
use Rattle.cc_bounds.proofs.SoundLemmas.{granted-sound}
use Rattle.cc_bounds.proofs.SoundDecodingLemmas.{inside-Represents}
use Rattle.cc_bounds.proofs.TightestLemmas.{granted-tight}
use Rattle.cc_bounds.proofs.DecisionLemmas.{dec_both, dec-HasByte, dec-IsWithin, dec-IsGranted, dec-Represents, StoreSome, dec-StoreSome}
use Rattle.cc_word.specs.ObjType.{IsObjType, last_sealing_type, unsealed_type}
use Rattle.cc_word.specs.Permissions.{HasAll, global_permission, seal_permission, unseal_permission}
use Rattle.cc_cap.specs.Capability.{Capability, IsCapability, IsUnsealed, GrantsNoMore, at_address, with_span, with_permissions, with_flag, sealed_with, unsealed_by, unsealed_permissions}
use Rattle.cc_cap.specs.Canonical.{IsWordOf, IsCanonical}
use Rattle.cc_cap.specs.Derivation.{request_of, SetsAddress, Increments, SetsBounds, SetsExactBounds, MasksPermissions, SetsFlag, Seals, Unseals, Rebuilds}
use Rattle.cc_cap.proofs.CanonicalLemmas.{IsWordOf-read}

-- ---- words

-- a word of the capability
pub record HasWord (cap : Capability) : Type 0 where
  pub word : ℕ
  pub is_word : IsWordOf cap word

otype-fits : (otype : ℕ) → IsObjType otype → otype < 2 ^ 18
otype-fits otype (inl sealed) = omega (arith, sealed)
otype-fits otype (inr unsealed) = omega (arith, unsealed)

-- every capability has a word
pub has_word : (cap : Capability) → IsCapability cap → HasWord cap
has_word cap is =
    let fit = sound-fit cap.span is.is_span is.sound in
    let fields : Fields = record {
      perms = cap.permissions;
      reserved = 0;
      flag = cap.flag;
      otype = cap.otype;
      ie = ie_of cap.span;
      t = t_of cap.span;
      b = b_of cap.span;
      address = cap.address;
      perms_fit = is.permissions_fit;
      reserved_fits = omega arith;
      otype_fits = otype-fits cap.otype is.is_type;
      t_fits = fit.t_fits;
      b_fits = fit.b_fits;
      address_fits = is.address_fits;
    } in
    record {
      word = word_of fields;
      is_word = record {
        is_capability = is;
        fields = fields;
        is_fields = record {
          permissions = refl;
          reserved = refl;
          flag = refl;
          otype = refl;
          bounds = bounds_fields-is cap.span is.is_span;
          address = refl;
        };
        is_word = refl;
      };
    }

-- ---- canonical words

dec-IsObjType : (otype : ℕ) → Dec (IsObjType otype)
dec-IsObjType otype = by_order (dec_le otype last_sealing_type) (ℕ_discrete otype unsealed_type)
  where
    by_order : Dec (otype ≤ last_sealing_type) → Dec (otype ≡ unsealed_type) → Dec (IsObjType otype)
    by_order (yes sealed) unsealed = yes (inl sealed)
    by_order (no not) (yes unsealed) = yes (inr unsealed)
    by_order (no not) (no neither) = no (λ h. elim h [ inl sealed ↦ not sealed | inr unsealed ↦ neither unsealed ])

-- some capability has the fields
record AreOfCapability (fields : Fields) : Type 0 where
  reserved : fields.reserved ≡ 0
  is_type : IsObjType fields.otype
  stores : StoreSome fields

dec-AreOfCapability : (fields : Fields) → Dec (AreOfCapability fields)
dec-AreOfCapability fields =
    map_dec (λ h. record { reserved = h.0; is_type = h.1.0; stores = h.1.1 }) (λ h. (h.reserved, (h.is_type, h.stores)))
    (dec_both (ℕ_discrete fields.reserved 0) (dec_both (dec-IsObjType fields.otype) (dec-StoreSome fields)))

-- some capability has the fields of a canonical word
canonical-are : (cap : Capability) (word : ℕ) (is : IsWordOf cap word) → AreOfCapability is.fields
canonical-are cap word is = record {
  reserved = is.is_fields.reserved;
  is_type = subst IsObjType (sym is.is_fields.otype) is.is_capability.is_type;
  stores = record {
    span = cap.span;
    stores = record {
      is_span = is.is_capability.is_span;
      sound = is.is_capability.sound;
      bounds_fields = is.is_fields.bounds;
      representable = subst (Represents cap.span) (sym is.is_fields.address) is.is_capability.representable;
    };
  };
}

pub dec-IsCanonical : (word : ℕ) → Dec (IsCanonical word)
dec-IsCanonical word = by_order (dec_lt word (2 ^ 128))
  where
    by_order : Dec (word < 2 ^ 128) → Dec (IsCanonical word)
    by_order (no not) = no (λ h. not (subst (λ (n : ℕ). n < 2 ^ 128) (sym h.1.is_word) (word_of-fits h.1.fields)))
    by_order (yes fits) =
        let own = of_word word fits in
        let fields : Fields = own.fields in
        map_dec
        (λ are.
        let cap : Capability = record {
          span = are.stores.span;
          address = fields.address;
          permissions = fields.perms;
          flag = fields.flag;
          otype = fields.otype;
        } in
        (cap, IsWordOf-read cap fields word are.stores.stores are.is_type refl are.reserved refl refl refl own.is_word))
        (λ h. subst (λ (f : Fields). AreOfCapability f) (word_of-same h.1.fields fields word (sym h.1.is_word) own.is_word)
        (canonical-are h.0 word h.1))
        (dec-AreOfCapability fields)

-- ---- results

-- a rule has a result, and what it makes can exist
pub record HasResult (Rule : Result Capability Refusal → Type 0) : Type 0 where
  pub result : Result Capability Refusal
  pub holds : Rule result
  pub exists : (cap : Capability) → result ≡ Ok cap → IsCapability cap

-- a rule without checks, which makes a capability that can exist
made : (cap : Capability) → IsCapability cap → HasResult (λ result. result ≡ Ok cap)
made cap is = record {
  result = Ok cap;
  holds = refl;
  exists = λ other e. let same : cap ≡ other = (let f = e in cc) in subst IsCapability same is;
}

-- a rule with one more check before it, whose condition is decided
unless : (condition : Type 0) (refusal : Refusal) (Rest : Result Capability Refusal → Type 0) → Dec condition
    → (condition → HasResult Rest) → HasResult (λ result. RefusedUnless condition (result ≡ Err refusal) (Rest result))
unless condition refusal Rest (yes holds) rest =
    let next = rest holds in record { result = next.result; holds = inl (holds, next.holds); exists = next.exists }
unless condition refusal Rest (no not) rest =
    record { result = Err refusal; holds = inr (not, refl); exists = λ cap e. let f = e in cc }

dec-IsUnsealed : (cap : Capability) → Dec (IsUnsealed cap)
dec-IsUnsealed cap = ℕ_discrete cap.otype unsealed_type

dec-HasAll : (permissions others : ℕ) → Dec (HasAll permissions others)
dec-HasAll permissions others = ℕ_discrete (bit_and permissions others) others

dec-GrantsNoMore : (child parent : Capability) → Dec (GrantsNoMore child parent)
dec-GrantsNoMore child parent =
    map_dec (λ h. record { bytes = h.0; permissions = h.1 }) (λ h. (h.bytes, h.permissions))
    (dec_both (dec-IsWithin child.span parent.span) (dec-HasAll parent.permissions child.permissions))

-- unsealing adds no permission
unsealed_permissions-le : (permissions authority : ℕ) → unsealed_permissions permissions authority ≤ permissions
unsealed_permissions-le permissions authority =
    elim (bit_and authority global_permission == global_permission)
    as (λ has. (if has then permissions else bit_and permissions 65534) ≤ permissions)
    [ true ↦ omega arith | false ↦ and_le_l permissions 65534 ]

module _ (cap : Capability) (is : IsCapability cap) where
  pub SetsAddress-result : (address : ℕ) → address < 2 ^ 64 → HasResult (SetsAddress cap address)
  SetsAddress-result address fits =
      unless _ _ _ (dec-IsUnsealed cap) (λ unsealed.
      unless _ _ _ (dec-Represents cap.span address is.is_span is.sound fits) (λ represents.
      made (at_address cap address) (record {
        is_span = is.is_span;
        sound = is.sound;
        address_fits = fits;
        representable = represents;
        permissions_fit = is.permissions_fit;
        is_type = is.is_type;
      })))

  pub Increments-result : (amount : ℕ) → HasResult (Increments cap amount)
  Increments-result amount = SetsAddress-result ((cap.address + amount) % 2 ^ 64) (omega arith)

  -- the span of a request in the bounds
  request-IsSpan : (size : ℕ) → IsWithin (request_of cap size) cap.span → IsSpan (request_of cap size)
  request-IsSpan size within =
      record { in_order = omega arith; base_fits = is.address_fits; top_fits = omega (arith, within.to_top, is.is_span.top_fits) }

  -- the capability with the span that such a request is granted can exist
  granted-IsCapability : (size : ℕ) (granted : Span) → IsWithin (request_of cap size) cap.span
      → IsGranted (request_of cap size) granted → IsCapability (with_span cap granted)
  granted-IsCapability size granted within is_granted =
      let is_request = request-IsSpan size within in
      let sound = granted-sound (request_of cap size) granted is_request is_granted in
      let covers = (granted-tight (request_of cap size) granted is_request is_granted).covers in
      record {
        is_span = sound.is_span;
        sound = sound.sound;
        address_fits = is.address_fits;
        representable = inside-Represents granted cap.address sound.is_span sound.sound covers.from_base (omega (arith, covers.to_top));
        permissions_fit = is.permissions_fit;
        is_type = is.is_type;
      }

  pub SetsBounds-result : (size : ℕ) → HasResult (SetsBounds cap size)
  SetsBounds-result size =
      unless _ _ _ (dec-IsUnsealed cap) (λ unsealed.
      unless _ _ _ (dec-IsWithin (request_of cap size) cap.span) (λ within.
      let granted : Span = granted_span (request_of cap size) in
      let is_granted = granted_span-is (request_of cap size) (request-IsSpan size within) in
      let next = made (with_span cap granted) (granted-IsCapability size granted within is_granted) in
      record { result = next.result; holds = (granted, is_granted, next.holds); exists = next.exists }))

  pub SetsExactBounds-result : (size : ℕ) → HasResult (SetsExactBounds cap size)
  SetsExactBounds-result size =
      unless _ _ _ (dec-IsUnsealed cap) (λ unsealed.
      unless _ _ _ (dec-IsWithin (request_of cap size) cap.span) (λ within.
      unless _ _ _ (dec-IsGranted (request_of cap size) (request_of cap size) (request-IsSpan size within)) (λ exact.
      made (with_span cap (request_of cap size)) (granted-IsCapability size (request_of cap size) within exact))))

  pub MasksPermissions-result : (mask : ℕ) → HasResult (MasksPermissions cap mask)
  MasksPermissions-result mask =
      unless _ _ _ (dec-IsUnsealed cap) (λ unsealed.
      let less = and_le_l cap.permissions mask in
      made (with_permissions cap (bit_and cap.permissions mask))
      (record {
        is_span = is.is_span;
        sound = is.sound;
        address_fits = is.address_fits;
        representable = is.representable;
        permissions_fit = omega (arith, less, is.permissions_fit);
        is_type = is.is_type;
      }))

  pub SetsFlag-result : (flag : Bool) → HasResult (SetsFlag cap flag)
  SetsFlag-result flag =
      unless _ _ _ (dec-IsUnsealed cap) (λ unsealed.
      made (with_flag cap flag) (record {
        is_span = is.is_span;
        sound = is.sound;
        address_fits = is.address_fits;
        representable = is.representable;
        permissions_fit = is.permissions_fit;
        is_type = is.is_type;
      }))

  pub Seals-result : (authority : Capability) → HasResult (Seals cap authority)
  Seals-result authority =
      unless _ _ _ (dec_both (dec-IsUnsealed cap) (dec-IsUnsealed authority)) (λ unsealed.
      unless _ _ _ (dec-HasAll authority.permissions seal_permission) (λ permitted.
      unless _ _ _ (dec-HasByte authority.span authority.address) (λ grants.
      unless _ _ _ (dec_le authority.address last_sealing_type) (λ sealing.
      made (sealed_with cap authority.address) (record {
        is_span = is.is_span;
        sound = is.sound;
        address_fits = is.address_fits;
        representable = is.representable;
        permissions_fit = is.permissions_fit;
        is_type = inl sealing;
      })))))

  pub Unseals-result : (authority : Capability) → HasResult (Unseals cap authority)
  Unseals-result authority =
      unless _ _ _ (dec_le cap.otype last_sealing_type) (λ sealed.
      unless _ _ _ (dec-IsUnsealed authority) (λ unsealed.
      unless _ _ _ (dec-HasAll authority.permissions unseal_permission) (λ permitted.
      unless _ _ _ (dec-HasByte authority.span authority.address) (λ grants.
      unless _ _ _ (ℕ_discrete authority.address cap.otype) (λ same.
      let less = unsealed_permissions-le cap.permissions authority.permissions in
      made (unsealed_by cap authority) (record {
        is_span = is.is_span;
        sound = is.sound;
        address_fits = is.address_fits;
        representable = is.representable;
        permissions_fit = omega (arith, less, is.permissions_fit);
        is_type = inr refl;
      }))))))

pub Rebuilds-result : (authority : Capability) (word : ℕ) → HasResult (Rebuilds authority word)
Rebuilds-result authority word =
    unless _ _ _ (dec-IsUnsealed authority) (λ unsealed.
    unless _ _ _ (dec-IsCanonical word) (λ canonical.
    let cap : Capability = canonical.0 in
    let next = unless (IsUnsealed cap × GrantsNoMore cap authority) ExceedsAuthority (λ result. result ≡ Ok cap)
    (dec_both (dec-IsUnsealed cap) (dec-GrantsNoMore cap authority)) (λ allowed. made cap canonical.1.is_capability) in
    record { result = next.result; holds = (cap, canonical.1, next.holds); exists = next.exists }))
