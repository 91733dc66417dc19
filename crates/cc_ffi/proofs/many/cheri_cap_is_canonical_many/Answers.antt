use Rattle.std.proofs.Common.{◌≢◌, arith, get_or-set_other}
use Rattle.cc_cap.specs.Canonical.{IsCanonical}
use Rattle.cc_ffi.specs.Many.{IsOneIf, word_at}
use Rattle.cc_cap.proofs.ManyLemmas.{answers_more}
use Rattle.cc_ffi.proofs.many.cheri_cap_is_canonical_many.Goals as goal

pub loop-i-preserved : goal.loop-i-preserved
loop-i-preserved c = (
  answers_more (λ i answer. IsOneIf (IsCanonical (word_at c.args.words.now i)) answer) c.loop-i.answers c.loop-i.i c.canonical.result (omega arith) c.loop-i.invariant.0 c.canonical.ensures,
  λ k d from. let ne : k ≢ c.loop-i.i = omega arith in rw get_or-set_other (c.loop-i.invariant.1 k d (omega arith)),
)
