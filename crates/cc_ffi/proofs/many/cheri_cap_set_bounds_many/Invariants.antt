use Rattle.std.proofs.Common.{slice_index}
use Rattle.std.specs.List.{SameFrom}
use Rattle.cc_ffi.specs.Many.{IsGrantedIfInRange, word_at}
use Rattle.cc_cap.specs.Many.{AnswersEach}
use Rattle.cc_ffi.proofs.many.cheri_cap_set_bounds_many.Given as goal

abbrev pub invariant-loop-i : goal.invariant-loop-i
invariant-loop-i l = AnswersEach (λ i told. IsGrantedIfInRange (slice_index l.bases i) (word_at l.lengths i) told) l.granted l.i × SameFrom l.initial.granted l.granted l.i
