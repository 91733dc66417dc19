use Rattle.std.proofs.Common.{ℕ, ◌≢◌, arith, get_or-set_other, subst}
use Rattle.cc_cap.specs.Canonical.{IsCanonical}
use Rattle.cc_ffi.specs.Many.{IsOneIf}
use Rattle.cc_ffi.specs.Memory.{word_in_memory}
use Rattle.cc_cap.proofs.ManyLemmas.{answers_more}
use Rattle.cc_ffi.proofs.c_memory.cheri_cap_is_canonical_memory.Goals as goal

pub loop-i-preserved : goal.loop-i-preserved
loop-i-preserved c = (
  answers_more (λ i answer. IsOneIf (IsCanonical (word_in_memory c.args.big_endian c.args.memory.now i)) answer)
      c.loop-i.answers c.loop-i.i c.canonical.result (omega arith) c.loop-i.invariant.0
      (subst (λ (word : ℕ). IsOneIf (IsCanonical word) c.canonical.result) c.word_of.ensures c.canonical.ensures),
  λ k d from. let ne : k ≢ c.loop-i.i = omega arith in rw get_or-set_other (c.loop-i.invariant.1 k d (omega arith)),
)
