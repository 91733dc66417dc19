-- The final value of a row of blocks of gaps when a `&mut` to one of its blocks is returned. No
-- public clause cites this file.
use Rattle.std.specs.Prelude.{ℕ, List, slice_set}
use Rattle.std.specs.Borrow.{Lends, MutBor, Fml}
use Rattle.cc_bounds.specs.declared.span.Span.{Span}
use Rattle.cc_machine.specs.GapBlocksState.{GapBlocksState}
use Rattle.cc_machine.specs.contracts.gap_block.GapBlock as block
use Rattle.cc_machine.specs.contracts.gap_blocks.GapBlocks as blocks

-- The row with another block at a position.
abbrev pub with_gaps : GapBlocksState → (at : ℕ) → List Span → GapBlocksState
with_gaps row at gaps = record { blocks = slice_set row.blocks at gaps; room = row.room }

-- LendsGaps holds if, once the borrow ends, the block at the position is the last that was written
-- through it.
abbrev pub LendsGaps : MutBor GapBlocksState → (at : ℕ) → MutBor (List Span) → Fml
LendsGaps row at lent = Lends blocks.the_row block.the_row row lent (with_gaps row.now at)
