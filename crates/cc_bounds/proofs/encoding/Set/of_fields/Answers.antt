use Rattle.std.proofs.Common.{◌∙◌, Some, true, ap, subst, sym, IsTrue}
use Rattle.cc_bounds.specs.declared.span.Span.{Span}
use Rattle.cc_bounds.specs.Encoding.{StoresSpan}
use Rattle.cc_bounds.proofs.FieldsLemmas.{stored-decodes}
use Rattle.cc_bounds.proofs.StoredLemmas.{stored-encoding, stored-field}
use Rattle.cc_bounds.proofs.encoding.Set.of_fields.Goals as goal

pub returns-then-not-stores_with-clause-only : goal.returns-then-not-stores_with-clause-only
returns-then-not-stores_with-clause-only c span h =
    let own = c.decode_with-span.ensures.only span (stored-decodes c.args.fields.now span h) in
    let yes : IsTrue c.stores_with.result = c.stores_with.ensures.1 (subst (StoresSpan c.args.fields.now) own h) in
    absurd (cc (yes, c.if-not-stores_with.true))

pub returns-clause-only : goal.returns-clause-only
returns-clause-only c span h =
    let own = c.decode_with-span.ensures.only span (stored-decodes c.args.fields.now span h) in
    ap Some (c.storing.ensures ∙ ap (λ (s : Span). record { granted = s; exact = true }) (sym own))

pub returns-clause-found : goal.returns-clause-found
returns-clause-found c = rw c.storing.ensures (c.stores_with.ensures.0 c.if-not-stores_with.false)

pub storing-requires : goal.storing-requires
storing-requires c =
    let stores = c.stores_with.ensures.0 c.if-not-stores_with.false in
    stored-encoding c.args.fields.now c.decode_with-span.result c.exponent_field-exponent.result
    (c.exponent_field-exponent.ensures.field ∙ stored-field c.args.fields.now c.decode_with-span.result stores) stores
