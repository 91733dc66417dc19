use Rattle.std.specs.List.{SameFrom}
use Rattle.cc_cap.specs.Many.{AnswersEach}
use Rattle.cc_ffi.specs.Words.{OfFields}
use Rattle.cc_ffi.specs.Bounds.{AreDecoded}
use Rattle.cc_ffi.specs.Many.{word_at}
use Rattle.cc_ffi.proofs.many.cheri_cap_decode_many.Given as goal

abbrev pub invariant-loop-i : goal.invariant-loop-i
invariant-loop-i l = AnswersEach (λ i told. OfFields (word_at l.words i) (λ fields. AreDecoded fields told)) l.bounds l.i × SameFrom l.initial.bounds l.bounds l.i
