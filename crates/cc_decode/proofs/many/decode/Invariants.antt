use Rattle.std.proofs.Common.{slice_index}
use Rattle.cc_cap.specs.Many.{AnswersEach, IsSpanOf}
use Rattle.cc_decode.proofs.many.decode.Given as goal

abbrev pub invariant-loop-i : goal.invariant-loop-i
invariant-loop-i l = AnswersEach (λ i span. IsSpanOf (slice_index l.words i) span) l.spans l.i
