use Rattle.std.proofs.Common.{ℕ, ◌≢◌, arith, get_or-set_other, subst}
use Rattle.cc_cap.specs.WordRules.{OnWord}
use Rattle.cc_ffi.specs.Many.{word_at}
use Rattle.cc_cap.specs.Derivation.{SetsBoundsBy}
use Rattle.cc_ffi.specs.Memory.{word_in_memory}
use Rattle.cc_ffi.specs.Rules.{GivesResult}
use Rattle.cc_ffi.proofs.MadeLemmas.{made_more}
use Rattle.cc_ffi.proofs.c_memory.set_bounds_in.Goals as goal

pub loop-i-preserved : goal.loop-i-preserved
loop-i-preserved c = record {
  made =
      made_more (λ i. OnWord (λ cap. SetsBoundsBy c.args.exact cap (word_at c.args.lengths.now i)) (word_in_memory c.args.big_endian c.args.memory.now i))
      c.args.big_endian c.loop-i.made c.loop-i.refusals c.loop-i.i c.bytes_of.result c.with_bounds-told.result (omega arith) (omega arith)
      c.loop-i.invariant.made
      (subst (λ (word : ℕ). GivesResult (OnWord (λ cap. SetsBoundsBy c.args.exact cap (word_at c.args.lengths.now c.loop-i.i)) word) c.with_bounds-told.result)
      c.word_of.ensures c.with_bounds-told.ensures)
      c.bytes_of.ensures;
  rest = λ k d from. let ne : k ≢ c.loop-i.i = omega arith in rw get_or-set_other (c.loop-i.invariant.rest k d (omega arith));
  rest_of_refusals = λ k d from. let ne : k ≢ c.loop-i.i = omega arith in rw get_or-set_other (c.loop-i.invariant.rest_of_refusals k d (omega arith));
}
