use Rattle.std.proofs.Common.{◌↔◌, IsTrue, slice_index}
use Rattle.cc_cap.specs.Canonical.{IsCanonical}
use Rattle.cc_cap.specs.Many.{AnswersEach}
use Rattle.cc_decode.proofs.many.is_canonical.Given as goal

abbrev pub invariant-loop-i : goal.invariant-loop-i
invariant-loop-i l = AnswersEach (λ i answer. IsTrue answer ↔ IsCanonical (slice_index l.words i)) l.answers l.i
