use Rattle.std.proofs.Common.{◌≢◌, arith, get_or-set_other, slice_index}
use Rattle.cc_ffi.specs.Many.{IsGrantedIfInRange, word_at}
use Rattle.cc_cap.proofs.ManyLemmas.{answers_more}
use Rattle.cc_ffi.proofs.many.cheri_cap_set_bounds_many.Goals as goal

pub loop-i-preserved : goal.loop-i-preserved
loop-i-preserved c = (
  answers_more (λ i told. IsGrantedIfInRange (slice_index c.args.bases.now i) (word_at c.args.lengths.now i) told) c.loop-i.granted c.loop-i.i c.granted_bounds.result (omega arith)
      c.loop-i.invariant.0 c.granted_bounds.ensures,
  λ k d from. let ne : k ≢ c.loop-i.i = omega arith in rw get_or-set_other (c.loop-i.invariant.1 k d (omega arith)),
)
