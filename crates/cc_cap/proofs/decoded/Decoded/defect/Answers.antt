use Rattle.std.proofs.Common.{◌≡◌, ◌<◌, ◌≤◌, ◌^◌, rules}
use Rattle.cc_word.specs.ObjType.{IsObjType}
use Rattle.cc_bounds.specs.Span.{IsSpan}
use Rattle.cc_cap.proofs.DefectLemmas.{fails, decoded-of, parts-of, canonical-of, other-fields}
use Rattle.cc_cap.proofs.decoded.Decoded.defect.Goals as goal

pub stores_with-requires-clause-decodes : goal.stores_with-requires-clause-decodes
stores_with-requires-clause-decodes c = decoded-of c.args.self.now.fields c.args.self.now.bounds c.args.self.now.decodes

pub returns-then-self-ne0 : goal.returns-then-self-ne0
returns-then-self-ne0 c =
    let fields = c.args.self.now.fields in
    let decodes = decoded-of fields c.args.self.now.bounds c.args.self.now.decodes in
    let some : ¬ (fields.reserved ≡ 0) = search rules in
    (λ canonical. some (parts-of fields c.args.self.now.bounds decodes canonical).reserved, some)

pub returns-then-not-is_type : goal.returns-then-not-is_type
returns-then-not-is_type c =
    let fields = c.args.self.now.fields in
    let decodes = decoded-of fields c.args.self.now.bounds c.args.self.now.decodes in
    let reserved : fields.reserved ≡ 0 = search rules in
    let not = fails c.is_type.result c.is_type.ensures c.if-not-is_type.true in
    (λ canonical. not (parts-of fields c.args.self.now.bounds decodes canonical).is_type, (reserved, not))

pub returns-then-stores_with : goal.returns-then-stores_with
returns-then-stores_with c = canonical-of c.args.self.now.fields c.args.self.now.bounds (record {
  reserved = search rules;
  is_type = c.is_type.ensures.0 c.if-not-is_type.false;
  stores = c.stores_with.ensures.0 c.if-stores_with.true;
})

pub returns-then-self-from : goal.returns-then-self-from
returns-then-self-from c =
    let fields = c.args.self.now.fields in
    let bounds = c.args.self.now.bounds in
    let decodes = decoded-of fields bounds c.args.self.now.decodes in
    let reserved : fields.reserved ≡ 0 = search rules in
    let is_type : IsObjType fields.otype = c.is_type.ensures.0 c.if-not-is_type.false in
    let not = fails c.stores_with.result c.stores_with.ensures c.if-stores_with.false in
    let below : bounds.top < bounds.base = search rules in
    (λ canonical. not (parts-of fields bounds decodes canonical).stores, ((reserved, is_type), below))

pub returns-then-self-gt-ADDRESS_SPACE : goal.returns-then-self-gt-ADDRESS_SPACE
returns-then-self-gt-ADDRESS_SPACE c =
    let fields = c.args.self.now.fields in
    let bounds = c.args.self.now.bounds in
    let decodes = decoded-of fields bounds c.args.self.now.decodes in
    let reserved : fields.reserved ≡ 0 = search rules in
    let is_type : IsObjType fields.otype = c.is_type.ensures.0 c.if-not-is_type.false in
    let not = fails c.stores_with.result c.stores_with.ensures c.if-stores_with.false in
    let in_order : bounds.base ≤ bounds.top = search rules in
    let past : 2 ^ 64 < bounds.top = search rules in
    (λ canonical. not (parts-of fields bounds decodes canonical).stores, ((reserved, is_type), in_order, past))

pub returns-else-self-gt-ADDRESS_SPACE : goal.returns-else-self-gt-ADDRESS_SPACE
returns-else-self-gt-ADDRESS_SPACE c =
    let fields = c.args.self.now.fields in
    let bounds = c.args.self.now.bounds in
    let decodes = decoded-of fields bounds c.args.self.now.decodes in
    let reserved : fields.reserved ≡ 0 = search rules in
    let is_type : IsObjType fields.otype = c.is_type.ensures.0 c.if-not-is_type.false in
    let not = fails c.stores_with.result c.stores_with.ensures c.if-stores_with.false in
    let is_span : IsSpan bounds = search rules in
    (λ canonical. not (parts-of fields bounds decodes canonical).stores, ((reserved, is_type), is_span, other-fields fields bounds decodes is_span not))
