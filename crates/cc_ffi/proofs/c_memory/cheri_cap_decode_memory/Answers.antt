use Rattle.std.proofs.Common.{ℕ, ◌≢◌, arith, get_or-set_other, subst}
use Rattle.cc_ffi.specs.Words.{OfFields}
use Rattle.cc_ffi.specs.Bounds.{AreDecoded}
use Rattle.cc_ffi.specs.Memory.{word_in_memory}
use Rattle.cc_cap.proofs.ManyLemmas.{answers_more}
use Rattle.cc_ffi.proofs.c_memory.cheri_cap_decode_memory.Goals as goal

pub loop-i-preserved : goal.loop-i-preserved
loop-i-preserved c = (
  answers_more (λ i told. OfFields (word_in_memory c.args.big_endian c.args.memory.now i) (λ fields. AreDecoded fields told))
      c.loop-i.bounds c.loop-i.i c.decoded.result (omega arith) c.loop-i.invariant.0
      (subst (λ (word : ℕ). OfFields word (λ fields. AreDecoded fields c.decoded.result)) c.word_of.ensures c.decoded.ensures),
  λ k d from. let ne : k ≢ c.loop-i.i = omega arith in rw get_or-set_other (c.loop-i.invariant.1 k d (omega arith)),
)

pub returns-clause-decoded : goal.returns-clause-decoded
returns-clause-decoded c = λ i other below. c.loop-i.invariant.0 i other (omega arith)
