use Rattle.std.specs.List.{SameFrom}
use Rattle.cc_ffi.specs.Many.{IsAlignmentMask, word_at}
use Rattle.cc_cap.specs.Many.{AnswersEach}
use Rattle.cc_ffi.proofs.many.cheri_cap_alignment_mask_many.Given as goal

abbrev pub invariant-loop-i : goal.invariant-loop-i
invariant-loop-i l = AnswersEach (λ i mask. IsAlignmentMask (word_at l.lengths i) mask) l.masks l.i × SameFrom l.initial.masks l.masks l.i
