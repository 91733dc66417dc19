use Rattle.std.proofs.Common.{◌↔◌, IsTrue, slice_index, arith}
use Rattle.cc_cap.specs.Canonical.{IsCanonical}
use Rattle.cc_cap.proofs.ManyLemmas.{answers_more}
use Rattle.cc_decode.proofs.many.is_canonical.Goals as goal

pub loop-i-preserved : goal.loop-i-preserved
loop-i-preserved c =
    answers_more (λ i answer. IsTrue answer ↔ IsCanonical (slice_index c.args.words.now i)) c.loop-i.answers c.loop-i.i c.is_canonical.result (omega arith) c.loop-i.invariant c.is_canonical.ensures

pub returns : goal.returns
returns c k other below = c.loop-i.invariant k other (omega (arith, c.requires, c.loop-i-test.false, below))
