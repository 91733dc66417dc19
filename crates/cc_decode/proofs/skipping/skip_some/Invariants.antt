use Rattle.std.proofs.Common.{◌≡◌, false}
use Rattle.cc_decode.proofs.SkipLemmas.{Skipping}
use Rattle.cc_decode.proofs.skipping.skip_some.Given as goal

abbrev pub invariant-pieces : goal.invariant-pieces
invariant-pieces g l = record {
  skipping : Skipping l.count l.rest (g.R.Source.state l.initial.source).unread (g.R.Source.state l.source).unread;
  gives : (g.R.Source.state l.source).has_failed ≡ false;
}

abbrev pub decreases-pieces : goal.decreases-pieces
decreases-pieces g l = l.rest
