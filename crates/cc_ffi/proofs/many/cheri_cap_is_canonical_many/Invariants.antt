use Rattle.std.specs.List.{SameFrom}
use Rattle.cc_cap.specs.Many.{AnswersEach}
use Rattle.cc_cap.specs.Canonical.{IsCanonical}
use Rattle.cc_ffi.specs.Many.{IsOneIf, word_at}
use Rattle.cc_ffi.proofs.many.cheri_cap_is_canonical_many.Given as goal

abbrev pub invariant-loop-i : goal.invariant-loop-i
invariant-loop-i l = AnswersEach (λ i answer. IsOneIf (IsCanonical (word_at l.words i)) answer) l.answers l.i × SameFrom l.initial.answers l.answers l.i
