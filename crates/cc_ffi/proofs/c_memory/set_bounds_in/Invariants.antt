use Rattle.std.proofs.Common.{slice_index}
use Rattle.std.specs.List.{SameFrom}
use Rattle.cc_cap.specs.Many.{AnswersEach}
use Rattle.cc_cap.specs.WordRules.{OnWord}
use Rattle.cc_ffi.specs.Many.{word_at}
use Rattle.cc_cap.specs.Derivation.{SetsBoundsBy}
use Rattle.cc_ffi.specs.Memory.{GivesInMemory, word_in_memory}
use Rattle.cc_ffi.proofs.c_memory.set_bounds_in.Given as goal

abbrev pub invariant-loop-i : goal.invariant-loop-i
invariant-loop-i l = record {
  made :
      AnswersEach (λ i bytes. GivesInMemory (OnWord (λ cap. SetsBoundsBy l.exact cap (word_at l.lengths i)) (word_in_memory l.big_endian l.memory i))
      l.big_endian bytes (slice_index l.refusals i)) l.made l.i;
  rest : SameFrom l.initial.made l.made l.i;
  rest_of_refusals : SameFrom l.initial.refusals l.refusals l.i;
}
