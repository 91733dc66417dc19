use Rattle.std.proofs.Common.{slice_index, arith}
use Rattle.cc_cap.specs.Many.{IsSpanOf}
use Rattle.cc_cap.proofs.ManyLemmas.{answers_more}
use Rattle.cc_decode.proofs.many.decode.Goals as goal

pub loop-i-preserved : goal.loop-i-preserved
loop-i-preserved c =
    answers_more (λ i span. IsSpanOf (slice_index c.args.words.now i) span) c.loop-i.spans c.loop-i.i c.decoded.result (omega arith) c.loop-i.invariant c.decoded.ensures

pub returns : goal.returns
returns c k other below = c.loop-i.invariant k other (omega (arith, c.requires, c.loop-i-test.false, below))
