use Rattle.std.proofs.Common.{rules, sym}
use Rattle.cc_decode.proofs.SkipLemmas.{skipping_more}
use Rattle.cc_decode.proofs.skipping.skip_some.Goals as goal

pub pieces-preserved : goal.pieces-preserved
pieces-preserved g c = record {
  skipping = skipping_more _ _ _ _ _ _ _ c.pieces.invariant.skipping c.in-Ok.ensures.gives.0 (sym c.in-Ok.ensures.count.1) (search rules);
  gives = search rules;
}
