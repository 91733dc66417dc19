use Rattle.std.proofs.Common.{◌≢◌, arith, get_or-set_other}
use Rattle.cc_ffi.specs.Many.{IsRoundedLength, word_at}
use Rattle.cc_ffi.specs.Numbers.{number_in}
use Rattle.cc_cap.proofs.ManyLemmas.{answers_more}
use Rattle.cc_ffi.proofs.many.cheri_cap_round_length_many.Goals as goal

pub loop-i-preserved : goal.loop-i-preserved
loop-i-preserved c = (
  answers_more (λ i told. IsRoundedLength (word_at c.args.lengths.now i) (number_in told)) c.loop-i.rounded c.loop-i.i c.rounded_length.result (omega arith) c.loop-i.invariant.0
      c.rounded_length.ensures,
  λ k d from. let ne : k ≢ c.loop-i.i = omega arith in rw get_or-set_other (c.loop-i.invariant.1 k d (omega arith)),
)
