use Rattle.std.proofs.Common.{subst, sym}
use Rattle.cc_word.specs.declared.fields.Fields.{Fields}
use Rattle.cc_bounds.specs.Decoding.{DecodesTo}
use Rattle.cc_decode.proofs.many.decoded.Goals as goal

pub returns : goal.returns
returns c fields has = subst (λ (own : Fields). DecodesTo own c.decode.result) (sym (c.unpack.ensures.only fields has)) c.decode.ensures.decodes
