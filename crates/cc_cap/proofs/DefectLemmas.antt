-- What a canonical word is in its fields and the bounds that they decode to.
use Rattle.std.proofs.Common.{◌≡◌, Bool, false, refl, sym, subst}
use Rattle.std.specs.Prelude.{IsTrue, ◌↔◌}
use Rattle.cc_word.specs.declared.fields.Fields.{Fields}
use Rattle.cc_word.specs.Word.{word_of}
use Rattle.cc_word.specs.ObjType.{IsObjType}
use Rattle.cc_word.proofs.WordLemmas.{word_of-same}
use Rattle.cc_bounds.specs.declared.span.Span.{Span}
use Rattle.cc_bounds.specs.Span.{IsSpan}
use Rattle.cc_bounds.specs.Encoding.{HasBoundsFields, StoresSpan}
use Rattle.cc_bounds.specs.Decoding.{DecodesTo}
use Rattle.cc_bounds.specs.Window.{Represents}
use Rattle.cc_bounds.proofs.DecodingLemmas.{DecodesTo-same}
use Rattle.cc_bounds.proofs.ExactlyOneLemmas.{one-span}
use Rattle.cc_bounds.proofs.FieldsLemmas.{stored-decodes}
use Rattle.cc_bounds.proofs.SoundDecodingLemmas.{decodes-representable}
use Rattle.cc_bounds.proofs.TightestLemmas.{decoded-sound}
use Rattle.cc_cap.specs.Capability.{Capability}
use Rattle.cc_cap.specs.Canonical.{IsFieldsOf, IsCanonical}
use Rattle.cc_cap.proofs.CanonicalLemmas.{IsWordOf-read}

-- what a test that failed asks does not hold
pub fails : {P : Type 0} (answer : Bool) → IsTrue answer ↔ P → answer ≡ false → P → ⊥
fails answer tests is_false holds = let is_true = tests.1 holds in cc (is_true, is_false)

-- the one span that fields decode to, if all that they decode to are equal to it
pub decoded-of : (fields : Fields) (bounds : Span)
    → ((span : Span) → DecodesTo fields span → (span.base ≡ bounds.base) × (span.top ≡ bounds.top)) → DecodesTo fields bounds
decoded-of fields bounds only =
    let one = one-span fields in
    let (base, top) = only one.value one.has in
    subst (DecodesTo fields) (λ i. record { base = base i; top = top i }) one.has

-- the parts of a canonical word
pub record IsCanonicalIn (fields : Fields) (bounds : Span) : Type 0 where
  pub reserved : fields.reserved ≡ 0
  pub is_type : IsObjType fields.otype
  pub stores : StoresSpan fields bounds

pub parts-of : (fields : Fields) (bounds : Span) → DecodesTo fields bounds → IsCanonical (word_of fields) → IsCanonicalIn fields bounds
parts-of fields bounds decodes (cap, has) =
    let same = word_of-same has.fields fields (word_of fields) (sym has.is_word) refl in
    let own = subst (IsFieldsOf cap) same has.is_fields in
    let stores : StoresSpan fields cap.span = record {
      is_span = has.is_capability.is_span;
      sound = has.is_capability.sound;
      bounds_fields = own.bounds;
      representable = subst (Represents cap.span) (sym own.address) has.is_capability.representable;
    } in
    record {
      reserved = own.reserved;
      is_type = subst IsObjType (sym own.otype) has.is_capability.is_type;
      stores = subst (StoresSpan fields) (DecodesTo-same fields cap.span bounds (stored-decodes fields cap.span stores) decodes) stores;
    }

pub canonical-of : (fields : Fields) (bounds : Span) → IsCanonicalIn fields bounds → IsCanonical (word_of fields)
canonical-of fields bounds is =
    let cap : Capability = record {
      span = bounds;
      address = fields.address;
      permissions = fields.perms;
      flag = fields.flag;
      otype = fields.otype;
    } in
    (cap, IsWordOf-read cap fields (word_of fields) is.stores is.is_type refl is.reserved refl refl refl refl)

-- fields that do not store their bounds, which are a span, are not the bounds fields of it
pub other-fields : (fields : Fields) (bounds : Span) → DecodesTo fields bounds → IsSpan bounds → (¬ StoresSpan fields bounds)
    → ¬ HasBoundsFields bounds fields.ie fields.t fields.b
other-fields fields bounds decodes is_span not has =
    let sound = decoded-sound bounds is_span (fields, decodes) in
    not (record {
      is_span = is_span;
      sound = sound;
      bounds_fields = has;
      representable = decodes-representable bounds fields is_span sound has decodes;
    })
