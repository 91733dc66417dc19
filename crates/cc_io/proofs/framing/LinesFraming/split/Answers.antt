use Rattle.cc_io.proofs.FrameLemmas.{line_split, line_split_not}
use Rattle.cc_io.proofs.framing.LinesFraming.split.Goals as goal

pub returns-clause-ends : goal.returns-clause-ends
returns-clause-ends c begun is = line_split begun c.args.text.now c.split_at_line_feed.result c.split_at_line_feed.ensures.whole c.split_at_line_feed.ensures.line

pub returns-clause-none : goal.returns-clause-none
returns-clause-none c begun is = line_split_not begun c.args.text.now c.split_at_line_feed.result c.split_at_line_feed.ensures.none
