use Rattle.std.proofs.Common.{ap, arith}
use Rattle.std.specs.Int.Count.{count_trailing_zeros}
use Rattle.cc_io.proofs.FeedLemmas.{lowest_feed, next_feed}
use Rattle.cc_io.proofs.line_start.first_line_feed.Goals as goal

pub returns-then-near-lt-NEAR : goal.returns-then-near-lt-NEAR
returns-then-near-lt-NEAR c =
    lowest_feed c.args.text.now _ (omega (arith, c.if-text-gt-NEAR.true)) c.if-near-lt-NEAR.true
    (ap (count_trailing_zeros 64) c.line_feeds_near.ensures)

pub returns-then-text-eq10 : goal.returns-then-text-eq10
returns-then-text-eq10 c =
    next_feed c.args.text.now _ c.if-text-gt-NEAR.true c.if-near-lt-NEAR.false (ap (count_trailing_zeros 64) c.line_feeds_near.ensures)
    c.if-text-eq10.true
