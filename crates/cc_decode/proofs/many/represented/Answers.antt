use Rattle.std.proofs.Common.{IsTrue, ◌↔◌, Option, Some, None, ap, subst, sym}
use Rattle.cc_word.specs.declared.fields.Fields.{Fields}
use Rattle.cc_bounds.specs.Window.{Represents}
use Rattle.cc_bounds.specs.Encoding.{Encoding, StoresSpan}
use Rattle.cc_decode.proofs.many.represented.Goals as goal

-- the encoding of an option, or another if there is none
abbrev encoding_or : Encoding → Option Encoding → Encoding
encoding_or other (Some set) = set
encoding_or other None = other

pub returns-in-Some : goal.returns-in-Some
returns-in-Some c = record {
  stored = λ fields has span stores.
      let only = c.in-Some.ensures.only span (subst (λ (own : Fields). StoresSpan own span) (c.unpack.ensures.only fields has) stores) in
      let is_set = ap (encoding_or c.in-Some.set) only in
      subst (λ (set : Encoding). IsTrue c.represents.result ↔ Represents set.granted c.args.address) is_set c.represents.ensures.window;
  none = λ fields has none.
      absurd (none c.in-Some.set.granted (subst (λ (own : Fields). StoresSpan own c.in-Some.set.granted) (sym (c.unpack.ensures.only fields has)) c.in-Some.ensures.found));
}
