use Rattle.std.proofs.Common.{slice_index}
use Rattle.cc_cap.specs.Many.{AnswersEach, TellsRepresentable}
use Rattle.cc_decode.proofs.many.represents.Given as goal

abbrev pub invariant-loop-i : goal.invariant-loop-i
invariant-loop-i l = AnswersEach (λ i answer. TellsRepresentable (slice_index l.words i) (slice_index l.addresses i) answer) l.answers l.i
