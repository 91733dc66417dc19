use Rattle.std.proofs.Common.{ℕ, ◌≢◌, arith, get_or-set_other, slice_index, subst}
use Rattle.cc_ffi.specs.Many.{IsOneIfRepresentable}
use Rattle.cc_ffi.specs.Memory.{word_in_memory}
use Rattle.cc_cap.proofs.ManyLemmas.{answers_more}
use Rattle.cc_ffi.proofs.c_memory.cheri_cap_represents_memory.Goals as goal

pub loop-i-preserved : goal.loop-i-preserved
loop-i-preserved c = (
  answers_more
      (λ i answer. IsOneIfRepresentable (word_in_memory c.args.big_endian c.args.memory.now i) (slice_index c.args.addresses.now i) answer)
      c.loop-i.answers c.loop-i.i c.represented.result (omega arith) c.loop-i.invariant.0
      (subst (λ (word : ℕ). IsOneIfRepresentable word (slice_index c.args.addresses.now c.loop-i.i) c.represented.result)
      c.word_of.ensures c.represented.ensures),
  λ k d from. let ne : k ≢ c.loop-i.i = omega arith in rw get_or-set_other (c.loop-i.invariant.1 k d (omega arith)),
)
