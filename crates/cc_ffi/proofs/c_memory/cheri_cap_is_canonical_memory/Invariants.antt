use Rattle.std.specs.List.{SameFrom}
use Rattle.cc_cap.specs.Many.{AnswersEach}
use Rattle.cc_cap.specs.Canonical.{IsCanonical}
use Rattle.cc_ffi.specs.Many.{IsOneIf}
use Rattle.cc_ffi.specs.Memory.{word_in_memory}
use Rattle.cc_ffi.proofs.c_memory.cheri_cap_is_canonical_memory.Given as goal

abbrev pub invariant-loop-i : goal.invariant-loop-i
invariant-loop-i l =
    AnswersEach (λ i answer. IsOneIf (IsCanonical (word_in_memory l.big_endian l.memory i)) answer) l.answers l.i
    × SameFrom l.initial.answers l.answers l.i
