use Rattle.std.proofs.Common.{IsTrue, ◌≡◌, ◌<◌, ◌^◌, ◌↔◌, arith, Option, Some, None, ◌∙◌, sym, ap, subst}
use Rattle.cc_word.specs.declared.fields.Fields.{Fields}
use Rattle.cc_bounds.specs.declared.span.Span.{Span}
use Rattle.cc_bounds.specs.Window.{Represents}
use Rattle.cc_bounds.specs.Encoding.{Encoding, HasBoundsFields, StoresSpan}
use Rattle.cc_bounds.specs.Decoding.{DecodesTo}
use Rattle.cc_ffi.proofs.FieldsLemmas.{moved_fields}
use Rattle.cc_ffi.proofs.bounds.cheri_cap_represents.Goals as goal

-- the encoding of an option, or another if there is none
abbrev encoding_or : Encoding → Option Encoding → Encoding
encoding_or other (Some set) = set
encoding_or other None = other

pub returns-in-Some-clause-stored : goal.returns-in-Some-clause-stored
returns-in-Some-clause-stored c fields has span stores =
    let same = c.unpack.ensures.only fields (has ∙ sym c.number.ensures) in
    let only = c.in-Some.ensures.only span (subst (λ (own : Fields). StoresSpan own span) same stores) in
    let is_set = ap (encoding_or c.in-Some.set) only in
    subst (λ (set : Encoding). IsTrue c.represents.result ↔ Represents set.granted c.args.address) is_set
    c.represents.ensures.window

pub returns-in-Some-clause-decodes : goal.returns-in-Some-clause-decodes
returns-in-Some-clause-decodes c fields has moved has' span stores =
    let same = c.unpack.ensures.only fields (has ∙ sym c.number.ensures) in
    let only = c.in-Some.ensures.only span (subst (λ (own : Fields). StoresSpan own span) same stores) in
    let is_set = ap (encoding_or c.in-Some.set) only in
    let granted : c.in-Some.set.granted ≡ span = ap (λ (set : Encoding). set.granted) is_set in
    let low_fits : c.args.low < 2 ^ 64 = omega arith in
    let address_fits : c.args.address < 2 ^ 64 = omega arith in
    let own = moved_fields span fields moved c.args.high c.args.low c.args.address low_fits address_fits has has' stores.bounds_fields in
    subst (λ (s : Span). IsTrue c.represents.result ↔ DecodesTo moved s) granted
    (c.represents.ensures.decodes moved (subst (λ (s : Span). HasBoundsFields s moved.ie moved.t moved.b) (sym granted) own.0) own.1)

pub returns-in-Some-clause-none : goal.returns-in-Some-clause-none
returns-in-Some-clause-none c fields has none =
    let same = c.unpack.ensures.only fields (has ∙ sym c.number.ensures) in
    let span = c.in-Some.set.granted in
    absurd (none span (subst (λ (own : Fields). StoresSpan own span) (sym same) c.in-Some.ensures.found))
