use Rattle.cc_io.proofs.FrameLemmas.{block_split, block_split_not, block_begun}
use Rattle.cc_io.proofs.framing.BlocksFraming.split.Goals as goal

pub returns-clause-ends : goal.returns-clause-ends
returns-clause-ends c begun is = block_split c.args.start.now begun c.args.text.now c.split_block.result is c.requires c.split_block.ensures.whole c.split_block.ensures.block

pub returns-clause-none : goal.returns-clause-none
returns-clause-none c begun is = block_split_not c.args.start.now begun c.args.text.now c.split_block.result is c.requires c.split_block.ensures.none

pub returns-clause-begun : goal.returns-clause-begun
returns-clause-begun c = block_begun c.args.start.now c.args.text.now c.split_block.result c.split_block.ensures.none
