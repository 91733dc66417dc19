use Rattle.std.proofs.Common.{slice_index, arith}
use Rattle.cc_cap.specs.Many.{TellsRepresentable}
use Rattle.cc_cap.proofs.ManyLemmas.{answers_more}
use Rattle.cc_decode.proofs.many.represents.Goals as goal

pub loop-i-preserved : goal.loop-i-preserved
loop-i-preserved c =
    answers_more (λ i answer. TellsRepresentable (slice_index c.args.words.now i) (slice_index c.args.addresses.now i) answer) c.loop-i.answers c.loop-i.i c.represented.result (omega arith)
    c.loop-i.invariant c.represented.ensures
