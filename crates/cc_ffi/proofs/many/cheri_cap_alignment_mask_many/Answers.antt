use Rattle.std.proofs.Common.{◌≢◌, arith, get_or-set_other}
use Rattle.cc_ffi.specs.Many.{IsAlignmentMask, word_at}
use Rattle.cc_cap.proofs.ManyLemmas.{answers_more}
use Rattle.cc_ffi.proofs.many.cheri_cap_alignment_mask_many.Goals as goal

pub loop-i-preserved : goal.loop-i-preserved
loop-i-preserved c = (
  answers_more (λ i mask. IsAlignmentMask (word_at c.args.lengths.now i) mask) c.loop-i.masks c.loop-i.i c.alignment_mask.result (omega arith) c.loop-i.invariant.0 c.alignment_mask.ensures,
  λ k d from. let ne : k ≢ c.loop-i.i = omega arith in rw get_or-set_other (c.loop-i.invariant.1 k d (omega arith)),
)
