use Rattle.std.proofs.Common.{◌≢◌, arith, get_or-set_other, slice_index}
use Rattle.cc_ffi.specs.Many.{IsOneIfRepresentable, word_at}
use Rattle.cc_cap.proofs.ManyLemmas.{answers_more}
use Rattle.cc_ffi.proofs.many.cheri_cap_represents_many.Goals as goal

pub loop-i-preserved : goal.loop-i-preserved
loop-i-preserved c = (
  answers_more (λ i answer. IsOneIfRepresentable (word_at c.args.words.now i) (slice_index c.args.addresses.now i) answer) c.loop-i.answers c.loop-i.i c.represented.result (omega arith)
      c.loop-i.invariant.0 c.represented.ensures,
  λ k d from. let ne : k ≢ c.loop-i.i = omega arith in rw get_or-set_other (c.loop-i.invariant.1 k d (omega arith)),
)
