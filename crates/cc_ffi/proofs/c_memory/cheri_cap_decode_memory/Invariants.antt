use Rattle.std.specs.List.{SameFrom}
use Rattle.cc_cap.specs.Many.{AnswersEach}
use Rattle.cc_ffi.specs.Words.{OfFields}
use Rattle.cc_ffi.specs.Bounds.{AreDecoded}
use Rattle.cc_ffi.specs.Memory.{word_in_memory}
use Rattle.cc_ffi.proofs.c_memory.cheri_cap_decode_memory.Given as goal

abbrev pub invariant-loop-i : goal.invariant-loop-i
invariant-loop-i l =
    AnswersEach (λ i told. OfFields (word_in_memory l.big_endian l.memory i) (λ fields. AreDecoded fields told)) l.bounds l.i
    × SameFrom l.initial.bounds l.bounds l.i
