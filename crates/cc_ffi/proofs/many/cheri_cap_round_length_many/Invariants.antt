use Rattle.std.specs.List.{SameFrom}
use Rattle.cc_ffi.specs.Many.{IsRoundedLength, word_at}
use Rattle.cc_ffi.specs.Numbers.{number_in}
use Rattle.cc_cap.specs.Many.{AnswersEach}
use Rattle.cc_ffi.proofs.many.cheri_cap_round_length_many.Given as goal

abbrev pub invariant-loop-i : goal.invariant-loop-i
invariant-loop-i l = AnswersEach (λ i told. IsRoundedLength (word_at l.lengths i) (number_in told)) l.rounded l.i × SameFrom l.initial.rounded l.rounded l.i
