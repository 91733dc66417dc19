use Rattle.std.proofs.Common.{slice_index}
use Rattle.std.specs.List.{SameFrom}
use Rattle.cc_cap.specs.Many.{AnswersEach}
use Rattle.cc_ffi.specs.Many.{IsOneIfRepresentable, word_at}
use Rattle.cc_ffi.proofs.many.cheri_cap_represents_many.Given as goal

abbrev pub invariant-loop-i : goal.invariant-loop-i
invariant-loop-i l = AnswersEach (λ i answer. IsOneIfRepresentable (word_at l.words i) (slice_index l.addresses i) answer) l.answers l.i × SameFrom l.initial.answers l.answers l.i
