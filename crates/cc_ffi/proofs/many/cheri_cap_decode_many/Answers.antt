use Rattle.std.proofs.Common.{◌≢◌, arith, get_or-set_other}
use Rattle.cc_ffi.specs.Words.{OfFields}
use Rattle.cc_ffi.specs.Bounds.{AreDecoded}
use Rattle.cc_ffi.specs.Many.{word_at}
use Rattle.cc_cap.proofs.ManyLemmas.{answers_more}
use Rattle.cc_ffi.proofs.many.cheri_cap_decode_many.Goals as goal

pub loop-i-preserved : goal.loop-i-preserved
loop-i-preserved c = (
  answers_more (λ i told. OfFields (word_at c.args.words.now i) (λ fields. AreDecoded fields told)) c.loop-i.bounds c.loop-i.i c.decoded.result (omega arith) c.loop-i.invariant.0 c.decoded.ensures,
  λ k d from. let ne : k ≢ c.loop-i.i = omega arith in rw get_or-set_other (c.loop-i.invariant.1 k d (omega arith)),
)

pub returns-clause-decoded : goal.returns-clause-decoded
returns-clause-decoded c = λ i other below. c.loop-i.invariant.0 i other (omega arith)
